-- A part of an octet, as the machine puts it in. Assumes nothing.
use Prim.Native.Nat.{ℕ, ◌+◌, ◌-◌, ◌*◌, ◌/◌, ◌%◌, ◌^◌, ◌≤◌, ◌<◌}
use mathlib.Core.Path.{◌≡◌, sym, ap, subst, ◌∙◌}
use native.Mathlib.Nat.{add-zero, mul-one, add-mul, mod-one, mod-lt, pow-zero}
use native.Mathlib.Omega.{arith}
use lib.Arith.{digits_lt}
use lib.Pow.{pow_pos, pow-add, split, shr-shr, shr_lt}

-- an octet with its n bits above the lowest m made the n lowest of v
unfoldable pub merged : ℕ → ℕ → ℕ → ℕ → ℕ
merged o m n v = (o / 2 ^ (m + n) * 2 ^ n + v % 2 ^ n) * 2 ^ m + o % 2 ^ m

pub merged-none : (o m v : ℕ) → merged o m 0 v ≡ o
unfolding merged
merged-none o m v = rw (add-zero m, pow-zero, mul-one, mod-one, add-zero) (split o m)

module _ (o m n v : ℕ) where
  -- what stands above the part, in it and below it
  whole : o ≡ o / 2 ^ (m + n) * 2 ^ n * 2 ^ m + o / 2 ^ m % 2 ^ n * 2 ^ m + o % 2 ^ m
  whole =
      sym (split o m)
      ∙ ap (λ (y : ℕ). y * 2 ^ m + o % 2 ^ m) (sym (split (o / 2 ^ m) n) ∙ ap (λ (y : ℕ). y * 2 ^ n + o / 2 ^ m % 2 ^ n) (shr-shr o m n))
      ∙ ap (λ (y : ℕ). y + o % 2 ^ m) (add-mul _ _ _)

  old-le : o / 2 ^ m % 2 ^ n * 2 ^ m ≤ o
  old-le = omega (arith, whole)

  merged-is : o - o / 2 ^ m % 2 ^ n * 2 ^ m + v % 2 ^ n * 2 ^ m ≡ merged o m n v
  unfolding merged
  merged-is = omega (arith, whole, add-mul (o / 2 ^ (m + n) * 2 ^ n) (v % 2 ^ n) (2 ^ m))

  pub merged-lt : o < 256 → m + n ≤ 8 → merged o m n v < 256
  unfolding merged
  merged-lt h k =
      let j = 8 - (m + n) in
      let e : j + (m + n) ≡ 8 = omega arith in
      let f : j + n + m ≡ 8 = omega arith in
      let a : o / 2 ^ (m + n) < 2 ^ j = shr_lt j (m + n) (rw e h) in
      let b = digits_lt a (mod-lt v (pow_pos n)) in
      let d = digits_lt b (mod-lt o (pow_pos m)) in
      subst (λ (y : ℕ). (o / 2 ^ (m + n) * 2 ^ n + v % 2 ^ n) * 2 ^ m + o % 2 ^ m < y)
      (ap (λ (y : ℕ). y * 2 ^ m) (sym (pow-add 2 j n)) ∙ sym (pow-add 2 (j + n) m) ∙ ap (λ (y : ℕ). 2 ^ y) f)
      d

-- what the code's steps want, of the octet and the two powers that were computed
pub record Merges (o m n v x q p : ℕ) : Type 0 where
  pub low : 0 < q
  pub wide : 0 < p
  pub old : x / q % p * q ≤ x
  pub fits : x - x / q % p * q + v % p * q < 256
  pub is : x - x / q % p * q + v % p * q ≡ merged o m n v

pub merges : (o m n v x q p : ℕ) → x ≡ o → q ≡ 2 ^ m → p ≡ 2 ^ n → o < 256 → m + n ≤ 8 → Merges o m n v x q p
merges o m n v x q p a b d h k =
    let e = merged-is o m n v in
    rw (a, b, d)
    (record {
      low = pow_pos m;
      wide = pow_pos n;
      old = old-le o m n v;
      fits = rw e (merged-lt o m n v h k);
      is = e;
    })
