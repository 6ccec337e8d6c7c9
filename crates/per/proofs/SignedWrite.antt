-- A number with a sign plus an offset, as the machine adds them. Assumes nothing.
use Prim.Native.Nat.{ℕ, suc, ◌+◌, ◌-◌, ◌^◌, ◌≤◌, ◌<◌}
use mathlib.Core.Path.{◌≡◌, refl, sym, ap, ◌∙◌}
use mathlib.Core.Bool.{Bool, true, false, cond, false≢true}
use native.Mathlib.Omega.{arith}
use lib.Dec.{T, ltb}
use lib.IntN.{ℤ, pos, negsuc, nat_abs, ◌+ℤ◌}
use lib.Signed.{mag, lt_z, non_neg}
use borrow.Author.Tests.{ltb-true, ltb-false}
use mir.Syntax.{w32, w64}
use mir.Val.{Fits, SFits, to_z, of_z}
use mir.Facts.{to_z_pos, to_z-of_z, sfits_widen}
use Rattle.per.specs.Field.{raised, raised_chk}
use Rattle.per.specs.laws.Codec.{unless-le, unless-gt}
use Rattle.per.proofs.SignedRead.{mag_less}
use Rattle.per.specs.WritingInner.{Raised}

-- ---- `z as i64 + k as i64`, of an i32 and a u16
module _ (z : ℤ) (k : ℕ) (f : mag z < 2 ^ 31) (q : k < 2 ^ 16) where
  h : SFits w32 z
  h = record { sfits = f }

  same : to_z w64 (of_z w64 (to_z w32 (of_z w32 z))) ≡ z
  same = ap (λ (y : ℤ). to_z w64 (of_z w64 y)) (to_z-of_z h) ∙ to_z-of_z {w = w64} (sfits_widen {w = w32} {w' = w64} tt h)

  few : to_z w64 k ≡ pos k
  few = let l : k < 2 ^ 63 = omega arith in to_z_pos w64 l

  pub wide_fits : SFits w64 (to_z w32 (of_z w32 z))
  wide_fits = rw (to_z-of_z h) (sfits_widen tt h)

  mag-more : (y : ℤ) → mag y < 2 ^ 31 → mag (y +ℤ pos k) < 2 ^ 63
  mag-more (pos n) l = omega arith
  mag-more (negsuc n) l = mag_less (2 ^ 63) k (suc n) (omega arith) (omega arith)

  pub sum_fits : SFits w64 (to_z w64 (of_z w64 (to_z w32 (of_z w32 z))) +ℤ to_z w64 k)
  sum_fits = rw (same, few) (record { sfits = mag-more z f })

  pub sum_is : to_z w64 (of_z w64 (to_z w64 (of_z w64 (to_z w32 (of_z w32 z))) +ℤ to_z w64 k)) ≡ z +ℤ pos k
  sum_is = to_z-of_z sum_fits ∙ rw (same, few)

-- `m as i64 + k as i64`, of two u16
module _ (m k : ℕ) (p : m < 2 ^ 16) (q : k < 2 ^ 16) where
  many : (n : ℕ) → n < 2 ^ 16 → to_z w64 n ≡ pos n
  many n h = let l : n < 2 ^ 63 = omega arith in to_z_pos w64 l

  pub most-fits : SFits w64 (to_z w64 m +ℤ to_z w64 k)
  most-fits = rw (many m p, many k q) (record { sfits = omega arith })

  pub most-is : to_z w64 (of_z w64 (to_z w64 m +ℤ to_z w64 k)) ≡ pos (m + k)
  most-is = to_z-of_z most-fits ∙ rw (many m p, many k q)

-- ---- what the two tests say of the number
below_none : (k hi : ℕ) (z : ℤ) → lt_z (z +ℤ pos k) (pos 0) ≡ true → raised_chk k hi z ≡ 5
below_none k hi (pos n) e = absurd (omega (arith, ltb-true (n + k) 0 e))
below_none k hi (negsuc n) e = go (ltb k (suc n)) refl e
  where
    go : (b : Bool) → ltb k (suc n) ≡ b → lt_z (cond b (negsuc (suc n - suc k)) (pos (k - suc n))) (pos 0) ≡ true → raised_chk k hi (negsuc n) ≡ 5
    go true f g = unless-gt (suc n) k 5 (ltb-true k (suc n) f)
    go false f g = absurd (omega (arith, ltb-true (k - suc n) 0 g))

above-all : (k hi : ℕ) (z : ℤ) → lt_z (pos (hi + k)) (z +ℤ pos k) ≡ true → raised_chk k hi z ≡ 5
above-all k hi (pos n) e = unless-gt n hi 5 (omega (arith, ltb-true (hi + k) (n + k) e))
above-all k hi (negsuc n) e = go (ltb k (suc n)) e
  where
    go : (b : Bool) → lt_z (pos (hi + k)) (cond b (negsuc (suc n - suc k)) (pos (k - suc n))) ≡ true → raised_chk k hi (negsuc n) ≡ 5
    go true g = absurd (false≢true g)
    go false g = absurd (omega (arith, ltb-true (hi + k) (k - suc n) g))

in-range : (k hi : ℕ) (z : ℤ) → lt_z (z +ℤ pos k) (pos 0) ≡ false → lt_z (pos (hi + k)) (z +ℤ pos k) ≡ false
    → (raised_chk k hi z ≡ 0) × (z +ℤ pos k ≡ pos (raised k z)) × (raised k z ≤ hi + k)
in-range k hi (pos n) e f = let l : n ≤ hi = omega (arith, ltb-false (hi + k) (n + k) f) in (unless-le n hi 5 l, refl, omega arith)
in-range k hi (negsuc n) e f = go (ltb k (suc n)) refl e
  where
    go : (b : Bool) → ltb k (suc n) ≡ b → lt_z (cond b (negsuc (suc n - suc k)) (pos (k - suc n))) (pos 0) ≡ false
        → (raised_chk k hi (negsuc n) ≡ 0) × (cond b (negsuc (suc n - suc k)) (pos (k - suc n)) ≡ pos (k - suc n)) × (k - suc n ≤ hi + k)
    go true g h = absurd (false≢true (sym h))
    go false g h = (unless-le (suc n) k 5 (ltb-false k (suc n) g), refl, omega arith)

-- ---- what `raise` returns
module _ (k hi : ℕ) (z : ℤ) (h : mag z < 2 ^ 31) (p : hi < 2 ^ 16) (q : k < 2 ^ 16) where
  abbrev sum : ℤ
  sum = to_z w64 (of_z w64 (to_z w64 (of_z w64 (to_z w32 (of_z w32 z))) +ℤ to_z w64 k))

  abbrev most : ℤ
  most = to_z w64 (of_z w64 (to_z w64 hi +ℤ to_z w64 k))

  outside : raised_chk k hi z ≡ 5 → Raised k hi z (hi + k + 1)
  outside e = record { within = λ l. absurd (omega arith); beyond = λ l. e }

  pub raise-low : lt_z sum (pos 0) ≡ true → Raised k hi z (hi + k + 1)
  raise-low e = outside (below_none k hi z (rw (sum_is z k h q) at e))

  pub raise-high : lt_z most sum ≡ true → Raised k hi z (hi + k + 1)
  raise-high e = outside (above-all k hi z (rw (sum_is z k h q, most-is hi k p q) at e))

  module _ (e : lt_z sum (pos 0) ≡ false) (f : lt_z most sum ≡ false) where
    known : (raised_chk k hi z ≡ 0) × (z +ℤ pos k ≡ pos (raised k z)) × (raised k z ≤ hi + k)
    known = in-range k hi z (rw (sum_is z k h q) at e) (rw (sum_is z k h q, most-is hi k p q) at f)

    raise-is : sum ≡ pos (raised k z)
    raise-is = sum_is z k h q ∙ known.1

    pub raise-cast : T (non_neg sum) × Fits w32 (nat_abs sum)
    raise-cast = rw raise-is (tt, record { fits = omega (arith, known.2) })

    pub raise-good : Raised k hi z (nat_abs sum)
    raise-good = rw raise-is (record { within = λ l. (known.0, refl); beyond = λ l. absurd (omega (arith, known.2)) })
