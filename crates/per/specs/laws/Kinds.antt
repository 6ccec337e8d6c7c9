-- The laws of each kind of field, and of lists and choices. Assumes nothing.
use Rattle.std.specs.Prelude.{ℕ, zero, suc, ◌+◌, ◌-◌, ◌^◌, ◌≤◌, ◌<◌, ◌≡◌, refl, Bool, true, false, cond, eqb, leb, ltb, ℤ, pos, negsuc}
use Rattle.std.proofs.Common.{sym, ap, arith, eqb-true, leb-true, ltb-true, ltb-false, lt-ltb, le-ltb}
use Rattle.std.proofs.Math.IntN.{sub_ℕ}
use Rattle.per.specs.Bits.{of_bit, width}
use Rattle.per.specs.laws.Bits.{width-holds}
use Rattle.per.specs.Codec.{first, unless}
use Rattle.per.specs.Field.{raised, raised_chk}
use Rattle.per.specs.laws.Codec.{first-0, first-1, first-00, unless-true, unless-le, unless-lt}
use Rattle.refusals.specs.Refusals.{OUT-OF-RANGE, ABOVE-RANGE, LIST-OVER}

-- ---- a whole number in lo..hi
pub num-write : (lo hi a : ℕ) → first (unless (leb lo a) OUT-OF-RANGE) (unless (leb a hi) OUT-OF-RANGE) ≡ 0
    → (a - lo < 2 ^ width (hi - lo)) × (unless (leb (lo + (a - lo)) hi) ABOVE-RANGE ≡ 0) × (lo + (a - lo) ≡ a)
unfolding width
num-write lo hi a h =
    let l : lo ≤ a = leb-true lo a (unless-true (leb lo a) 4 (first-0 (unless (leb lo a) OUT-OF-RANGE) (unless (leb a hi) OUT-OF-RANGE) h)) in
    let u : a ≤ hi = leb-true a hi (unless-true (leb a hi) 4 (first-1 (unless (leb lo a) OUT-OF-RANGE) (unless (leb a hi) OUT-OF-RANGE) h)) in
    (omega (arith, width-holds (hi - lo) (hi - lo) (omega arith)), unless-le (lo + (a - lo)) hi 8 (omega arith), omega arith)

pub num-read : (lo hi v : ℕ) → unless (leb (lo + v) hi) ABOVE-RANGE ≡ 0
    → (first (unless (leb lo (lo + v)) OUT-OF-RANGE) (unless (leb (lo + v) hi) OUT-OF-RANGE) ≡ 0) × (lo + v - lo ≡ v)
num-read lo hi v g =
    let u : lo + v ≤ hi = leb-true (lo + v) hi (unless-true (leb (lo + v) hi) 7 g) in
    (first-00 (unless (leb lo (lo + v)) OUT-OF-RANGE) (unless (leb (lo + v) hi) OUT-OF-RANGE) (unless-le lo (lo + v) 5 (omega arith)) (unless-le (lo + v) hi 5 u), omega arith)

-- ---- a run of bits
pub run-write : (w v : ℕ) → first (unless (leb w 32) OUT-OF-RANGE) (unless (ltb v (2 ^ w)) OUT-OF-RANGE) ≡ 0 → (v < 2 ^ w) × (unless (leb w 32) ABOVE-RANGE ≡ 0)
run-write w v h =
    let n : w ≤ 32 = leb-true w 32 (unless-true (leb w 32) 4 (first-0 (unless (leb w 32) OUT-OF-RANGE) (unless (ltb v (2 ^ w)) OUT-OF-RANGE) h)) in
    (ltb-true v (2 ^ w) (unless-true (ltb v (2 ^ w)) 4 (first-1 (unless (leb w 32) OUT-OF-RANGE) (unless (ltb v (2 ^ w)) OUT-OF-RANGE) h)), unless-le w 32 8 n)

pub run-read : (w v : ℕ) → v < 2 ^ w → unless (leb w 32) ABOVE-RANGE ≡ 0 → first (unless (leb w 32) OUT-OF-RANGE) (unless (ltb v (2 ^ w)) OUT-OF-RANGE) ≡ 0
run-read w v h g =
    let n : w ≤ 32 = leb-true w 32 (unless-true (leb w 32) 7 g) in
    first-00 (unless (leb w 32) OUT-OF-RANGE) (unless (ltb v (2 ^ w)) OUT-OF-RANGE) (unless-le w 32 5 n) (unless-lt v (2 ^ w) 5 h)

-- ---- one bit
pub flag-read : (v : ℕ) → v < 2 ^ 1 → of_bit (eqb v 1) ≡ v
unfolding of_bit
flag-read zero h = refl
flag-read (suc zero) h = refl
flag-read (suc (suc n)) h = absurd (omega arith)

pub flag-write : (b : Bool) → eqb (of_bit b) 1 ≡ b
unfolding of_bit
flag-write true = refl
flag-write false = refl

pub zero_bit : (v n : ℕ) → unless (eqb v 0) (suc n) ≡ 0 → 0 ≡ v
zero_bit v n h = sym (eqb-true v 0 (unless-true (eqb v 0) n h))

-- ---- a count of at most 16
pub count-write : (n : ℕ) → unless (leb n 16) LIST-OVER ≡ 0 → n < 2 ^ 8
count-write n h = omega (arith, leb-true n 16 (unless-true (leb n 16) 11 h))

-- ---- a signed number, sent plus k
pub raised-write : (k hi : ℕ) (z : ℤ) → raised_chk k hi z ≡ 0
    → (raised k z < 2 ^ width (hi + k)) × (unless (leb (raised k z) (hi + k)) ABOVE-RANGE ≡ 0) × (sub_ℕ (raised k z) k ≡ z)
unfolding width
raised-write k hi (pos n) h =
    let l : n ≤ hi = leb-true n hi (unless-true (leb n hi) 4 h) in (
      omega (arith, width-holds (hi + k) (hi + k) (omega arith)),
      unless-le (n + k) (hi + k) 8 (omega arith),
      rw (le-ltb (n + k) k (omega arith)) (ap pos (omega arith)),
    )
raised-write k hi (negsuc n) h =
    let l : suc n ≤ k = leb-true (suc n) k (unless-true (leb (suc n) k) 4 h) in (
      omega (arith, width-holds (hi + k) (hi + k) (omega arith)),
      unless-le (k - suc n) (hi + k) 8 (omega arith),
      rw (lt-ltb (k - suc n) k (omega arith)) (ap negsuc (omega arith)),
    )

pub raised-read : (k hi v : ℕ) → unless (leb v (hi + k)) ABOVE-RANGE ≡ 0 → (raised_chk k hi (sub_ℕ v k) ≡ 0) × (raised k (sub_ℕ v k) ≡ v)
raised-read k hi v g = go (ltb v k) refl
  where
    u : v ≤ hi + k
    u = leb-true v (hi + k) (unless-true (leb v (hi + k)) 7 g)

    go : (b : Bool) → ltb v k ≡ b → (raised_chk k hi (cond b (negsuc (k - suc v)) (pos (v - k))) ≡ 0) × (raised k (cond b (negsuc (k - suc v)) (pos (v - k))) ≡ v)
    go true e = let l : v < k = ltb-true v k e in (unless-le (suc (k - suc v)) k 5 (omega arith), omega arith)
    go false e = let l : k ≤ v = ltb-false v k e in (unless-le (v - k) hi 5 (omega (arith, u)), omega arith)
