-- Fields that stand side by side, out of one run of bits. Assumes nothing.
use Prim.Native.Nat.{ℕ, suc, ◌+◌, ◌-◌, ◌*◌, ◌/◌, ◌%◌, ◌^◌, ◌≤◌, ◌<◌}
use mathlib.Core.Path.{◌≡◌, refl, sym, ap, subst, ◌∙◌}
use mathlib.Core.Bool.{Bool, true, false, cond}
use mathlib.Core.List.{List}
use native.Mathlib.Nat.{zero-add}
use native.Mathlib.Omega.{arith}
use lib.ListN.{length}
use lib.Dec.{eqb, leb}
use lib.Pow.{pow_pos, high, low}
use borrow.Author.Tests.{le-leb, eqb-true, eqb-false, leb-true}
use Rattle.per.specs.declared.cursor.Cursor.{Cursor}
use Rattle.per.specs.Bits.{num_at, width}
use Rattle.per.specs.laws.Bits.{num_at-lt}
use Rattle.per.specs.laws.Codec.{unless-le}
use Rattle.per.specs.Codec.{Codec, Out, out, place, refuse}
use Rattle.per.specs.Formats.{field, run, num, num_field, flag, flag_field}
use Rattle.per.specs.Pdu.{window}
use Rattle.per.specs.Reading.{Reads}
use Rattle.per.proofs.Runs.{num-add}
use Rattle.per.proofs.Leaf.{take-good, judged-good, judged-free}

-- a run of bits that was read without a refusal
record Good (w : ℕ) (s : List ℕ) (j : Cursor) (v : ℕ) (n : Cursor) : Type 0 where
  pub free : j.refusal ≡ 0
  pub there : w ≤ length (window s) - j.at
  pub is : v ≡ num_at (window s) j.at w
  pub next : n ≡ place (j.at + w)

-- the ways out of `run`, by whether the cursor is free and whether the bits are there
abbrev ways : ℕ → ℕ → ℕ → Cursor → Bool → Bool → Out ℕ
ways x at w j b d = cond b (cond d (out x (place (at + w))) (out 0 (refuse at 7))) (out 0 j)

run-good : (w : ℕ) {s : List ℕ} {j : Cursor} {v : ℕ} {n : Cursor} → w ≤ 32 → Reads (run w) s j v n → n.refusal ≡ 0 → Good w s j v n
unfolding field
run-good w {s} {j} {v} {n} o u z =
    let m = le-leb w 32 o in
    go (eqb j.refusal 0) refl (leb w (length (window s) - j.at)) refl (rw m at u.value_is) (rw m at u.next_is)
  where
    go : (b : Bool) → eqb j.refusal 0 ≡ b → (d : Bool) → leb w (length (window s) - j.at) ≡ d
        → v ≡ (ways (num_at (window s) j.at w) j.at w j b d).value → n ≡ (ways (num_at (window s) j.at w) j.at w j b d).next → Good w s j v n
    go true e true f p q = record { free = eqb-true j.refusal 0 e; there = leb-true w (length (window s) - j.at) f; is = p; next = q }
    go true e false f p q = absurd (omega (arith, ap (λ (i : Cursor). i.refusal) q))
    go false e d f p q = absurd (eqb-false j.refusal 0 e (ap (λ (i : Cursor). i.refusal) (sym q) ∙ z))

-- a number of w bits, read or not
pub run-under : (w : ℕ) {s : List ℕ} {j : Cursor} {v : ℕ} {n : Cursor} → w ≤ 32 → Reads (run w) s j v n → v < 2 ^ w
unfolding field
run-under w {s} {j} {v} o u =
    let m = le-leb w 32 o in
    go (eqb j.refusal 0) (leb w (length (window s) - j.at)) (rw m at u.value_is)
  where
    go : (b d : Bool) → v ≡ (ways (num_at (window s) j.at w) j.at w j b d).value → v < 2 ^ w
    go true true p = rw p (num_at-lt (window s) j.at w)
    go true false p = rw p (pow_pos w)
    go false d p = rw p (pow_pos w)

-- its first b bits and the r behind them, as two runs
pub peel : (b r : ℕ) {s : List ℕ} {j : Cursor} {v : ℕ} {n : Cursor} → b + r ≤ 32 → Reads (run (b + r)) s j v n → n.refusal ≡ 0
    → (Reads (run b) s j (v / 2 ^ r) (place (j.at + b))) × (Reads (run r) s (place (j.at + b)) (v % 2 ^ r) n)
peel b r {s} {j} {v} {n} o u z =
    let g = run-good (b + r) o u z in
    let h = g.there in
    let bs = window s in
    let e : v ≡ num_at bs j.at b * 2 ^ r + num_at bs (j.at + b) r = g.is ∙ num-add bs j.at b r in
    let l = num_at-lt bs (j.at + b) r in
    let f : n ≡ place (j.at + b + r) = g.next ∙ ap place (omega arith) in (
      take-good s j b (v / 2 ^ r) g.free (omega arith) (omega arith) (ap (λ (x : ℕ). x / 2 ^ r) e ∙ high (num_at bs j.at b) r l),
      subst (λ (k : Cursor). Reads (run r) s (place (j.at + b)) (v % 2 ^ r) k) (sym f)
          (take-good s (place (j.at + b)) r (v % 2 ^ r) refl (omega arith) (omega arith) (ap (λ (x : ℕ). x % 2 ^ r) e ∙ low (num_at bs j.at b) r l)),
    )

-- what is read without a refusal was free before
pub was_free : {A : Type 0} {c : Codec A} {s : List ℕ} {j : Cursor} {a : A} {n : Cursor} → Reads c s j a n → n.refusal ≡ 0 → j.refusal ≡ 0
was_free {A} {c} {s} {j} r z = go (eqb j.refusal 0) refl
  where
    go : (b : Bool) → eqb j.refusal 0 ≡ b → j.refusal ≡ 0
    go true e = eqb-true j.refusal 0 e
    go false e =
        let h = eqb-false j.refusal 0 e in
        absurd (h (ap (λ (o : Out A). o.next.refusal) (sym (c.stuck (window s) j h)) ∙ ap (λ (i : Cursor). i.refusal) (sym r.next_is) ∙ z))

-- a run as the field that it is
pub num_of : (lo hi w : ℕ) {s : List ℕ} {j : Cursor} {v : ℕ} {n : Cursor} → w ≡ width (hi - lo) → w ≤ 32 → Reads (run w) s j v n → n.refusal ≡ 0 → lo + v ≤ hi
    → Reads (num lo hi) s j (lo + v) n
num_of lo hi w e o u z h = judged-good (num_field lo hi) e o u z (unless-le _ _ 8 h)

pub upto-of : (hi w : ℕ) {s : List ℕ} {j : Cursor} {v : ℕ} {n : Cursor} → w ≡ width (hi - 0) → w ≤ 32 → Reads (run w) s j v n → n.refusal ≡ 0 → v ≤ hi → Reads (num 0 hi) s j v n
upto-of hi w {s} {j} {v} {n} e o u z h =
    subst (λ (x : ℕ). Reads (num 0 hi) s j x n) (zero-add v) (num_of 0 hi w e o u z (omega arith))

-- and where every number of its bits is in range
pub all_of : (hi w : ℕ) {s : List ℕ} {j : Cursor} {v : ℕ} {n : Cursor} → w ≡ width (hi - 0) → w ≤ 32 → 2 ^ w ≡ suc hi → Reads (run w) s j v n → n.refusal ≡ 0 → Reads (num 0 hi) s j v n
all_of hi w {s} {j} e o f u z =
    let g = run-good w o u z in
    upto-of hi w e o u z (omega (arith, f, g.is, num_at-lt (window s) j.at w))

pub flag-of : {s : List ℕ} {j : Cursor} {v : ℕ} {n : Cursor} → Reads (run 1) s j v n → Reads flag s j (eqb v 1) n
flag-of u = judged-free flag_field refl (omega arith) u (λ i. refl) refl
