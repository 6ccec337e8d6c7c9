-- What the gatherer finds, by where the first line feed stands. Assumes nothing.
use mathlib.Core.Path.{◌≡◌, refl, ◌∙◌}
use mathlib.Core.Bool.{true, false}
use mathlib.Core.List.{List, [], ◌∷◌}
use Prim.Native.Nat.{ℕ, zero, suc, ◌+◌, ◌-◌, ◌≤◌, ◌<◌, min}
use native.Mathlib.Omega.{arith}
use borrow.Author.Tests.{ne_eqb}
use lib.ListN.{length, drop, take, drop_of_length-le}
use mathlib.Core.Logic.{⊎_elim}
use native.Mathlib.Nat.{min-eq_left, min-eq_right, le_refl}
use Rattle.text.proofs.Laws.{part-all, le-or-lt}
use Rattle.std.specs.Prelude.{◌≢◌}
use Rattle.std.specs.List.{HoldsAt, AllWithin}
use Rattle.text.specs.Page.{Page, Writes}
use Rattle.text_lines.specs.Lines.{front, gathered, Gathers}

-- the first one at k
pub feed_at : (s : List ℕ) (k : ℕ) → k < length s → HoldsAt (λ x. x ≡ 10) s k → AllWithin (λ x. x ≢ 10) s 0 k → gathered s ≡ front (take k s) (k + 1) true
feed_at [] k h hit miss = absurd (omega arith)
feed_at (o ∷ os) zero h hit miss = rw (hit 0)
feed_at (o ∷ os) (suc k) h hit miss =
    let n : suc k + 1 ≡ suc (k + 1) = omega arith in
    rw (ne_eqb o 10 (miss 0 0 (omega arith) (omega arith)), feed_at os k (omega arith) (λ d. hit d) (λ j d lo hi. miss (suc j) d (omega arith) (omega arith)), n)

-- or none
pub feed_none : (s : List ℕ) → AllWithin (λ x. x ≢ 10) s 0 (length s) → gathered s ≡ front s (length s) false
feed_none [] miss = refl
feed_none (o ∷ os) miss =
    rw (ne_eqb o 10 (miss 0 0 (omega arith) (omega arith)), feed_none os (λ j d lo hi. miss (suc j) d (omega arith) (omega arith)))

-- what is left of a piece from a place on, as far as it is there
pub left-from : (s : List ℕ) (a from : ℕ) → a ≡ min from (length s) → take (length s - a) (drop a s) ≡ drop from s
left-from s a from e =
    part-all s a (length s) refl
    ∙ ⊎_elim (λ (h : from ≤ length s). rw (e, min-eq_left h))
    (λ (h : length s < from). let l : length s ≤ from = omega arith in rw (e, min-eq_right l, drop_of_length-le s l, drop_of_length-le s (le_refl (length s))))
    (le-or-lt from (length s))

module _ (s : List ℕ) (from : ℕ) (rest : List ℕ) (is : rest ≡ drop from s) (p : Page) (n len : ℕ) (q : Page) where
  pub gathers-feed : (k : ℕ) → n ≡ from + k + 1 → gathered rest ≡ front (take k rest) (k + 1) true → Writes p (take k rest) q
      → Gathers s from p (record { next = n; len = len; ended = true }) q
  gathers-feed k e g w = record { next_is = rw (← is, g) (omega arith); ended_is = rw (← is, g); kept_is = rw (← is, g) w }

  pub gathers-rest : n ≡ from + length rest → gathered rest ≡ front rest (length rest) false → Writes p rest q
      → Gathers s from p (record { next = n; len = len; ended = false }) q
  gathers-rest e g w = record { next_is = rw (← is, g) (omega arith); ended_is = rw (← is, g); kept_is = rw (← is, g) w }
