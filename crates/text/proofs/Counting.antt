-- Laws of whole numbers as text. Assumes nothing.
use mathlib.Core.Path.{◌≡◌, refl, ap, ◌∙◌}
use mathlib.Core.Bool.{Bool, true, false}
use mathlib.Core.List.{List, [], ◌∷◌}
use Prim.Native.Nat.{ℕ, suc, ◌+◌, ◌-◌, ◌≤◌, ◌<◌}
use native.Mathlib.Omega.{arith}
use borrow.Author.Tests.{eq-eqb, ne_eqb}
use lib.Dec.{eqb}
use lib.ListN.{length, get_or, take, drop}
use Rattle.text.specs.Text.{pick, word_end}
use Rattle.text.specs.Numbers.{number_from, number_of, stepped_of, step_of}
use Rattle.text.specs.declared.digits.Stepped.{Stepped}
use Rattle.std.specs.Prelude.{Option, Some, None, IfSome}
use Rattle.text.proofs.Laws.{part-all}

-- a number's first digit
pub number-none : (s : List ℕ) → length s ≡ 0 → number_of s ≡ None
unfolding number_of
number-none [] h = refl
number-none (c ∷ cs) h = absurd (omega arith)

pub number-zero : (s : List ℕ) → 1 < length s → get_or s 0 0 ≡ 48 → number_of s ≡ None
unfolding number_of
number-zero [] h e = absurd (omega arith)
number-zero (c ∷ []) h e = absurd (omega arith)
number-zero (c ∷ d ∷ cs) h e = rw (eq-eqb c 48 e)

pub number-one : (s : List ℕ) → length s ≡ 1 → number_of s ≡ number_from 0 s
unfolding number_of
number-one [] h = absurd (omega arith)
number-one (c ∷ []) h = refl
number-one (c ∷ d ∷ cs) h = absurd (omega arith)

pub number-long : (s : List ℕ) → 1 < length s → (get_or s 0 0 ≡ 48 → ⊥) → number_of s ≡ number_from 0 s
unfolding number_of
number-long [] h n = absurd (omega arith)
number-long (c ∷ []) h n = absurd (omega arith)
number-long (c ∷ d ∷ cs) h n = rw (ne_eqb c 48 n)

pub step-none : (s : List ℕ) → length s ≡ 0 → None ≡ step_of s
unfolding step_of
step-none [] h = refl
step-none (c ∷ cs) h = absurd (omega arith)

pub step-bad : (s : List ℕ) → (length s ≡ 0 → ⊥) → (get_or s 0 0 ≡ 32 → ⊥) → None ≡ step_of s
unfolding step_of
step-bad [] h n = absurd (h refl)
step-bad (c ∷ cs) h n = rw (ne_eqb c 32 n)

pub step-good : (s : List ℕ) (e : ℕ) (n : Option ℕ) → (length s ≡ 0 → ⊥) → get_or s 0 0 ≡ 32 → e ≡ word_end (take (length s - 1) (drop 1 s))
    → n ≡ number_of (take (e + 1 - 1) (drop 1 s)) → stepped_of n (e + 1) ≡ step_of s
unfolding step_of
step-good [] e n h sp ends is = absurd (h refl)
step-good (c ∷ cs) e n h sp ends is =
    let w : e ≡ word_end cs = ends ∙ ap word_end (part-all (c ∷ cs) 1 (suc (length cs)) refl) in
    let k : e + 1 - 1 ≡ e = omega arith in
    rw (eq-eqb c 32 sp, is, k, w)

pub word-within : (s : List ℕ) → word_end s ≤ length s
word-within [] = omega arith
word-within (c ∷ cs) = go (eqb c 32) (word-within cs)
  where
    go : (f : Bool) → word_end cs ≤ length cs → pick f 0 (1 + word_end cs) ≤ suc (length cs)
    go true h = omega arith
    go false h = omega arith

pub step-used : (s : List ℕ) → IfSome (step_of s) (λ r. r.used ≤ length s)
unfolding step_of stepped_of
step-used [] = tt
step-used (c ∷ cs) = go (eqb c 32) (number_of (take (word_end cs) cs)) (word-within cs)
  where
    go : (f : Bool) (n : Option ℕ) → word_end cs ≤ length cs → IfSome (pick f (stepped_of n (word_end cs + 1)) None) (λ r. r.used ≤ suc (length cs))
    go true (Some v) h = omega arith
    go true None h = tt
    go false n h = tt
