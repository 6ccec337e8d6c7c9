-- A run of bits out of whole octets, over the width. Assumes nothing.
use Prim.Native.Nat.{ℕ, zero, suc, ◌+◌, ◌-◌, ◌*◌, ◌/◌, ◌%◌, ◌^◌, ◌≤◌, ◌<◌}
use mathlib.Core.Path.{◌≡◌, sym, ap, ◌∙◌}
use mathlib.Core.Bool.{Bool}
use mathlib.Core.List.{List}
use native.Mathlib.Nat.{add-zero, add-suc, add_assoc, mul-one, mul_assoc, pow-suc, pow-zero}
use native.Mathlib.Omega.{arith}
use lib.Pow.{pow_pos, high, low}
use Rattle.per.specs.Bits.{num_at}
use Rattle.per.specs.laws.Bits.{num_at-lt}
use Rattle.per.specs.Pdu.{fill}

-- a run of two parts
pub num-add : (bs : List Bool) (at a b : ℕ) → num_at bs at (a + b) ≡ num_at bs at a * 2 ^ b + num_at bs (at + a) b
unfolding num_at
num-add bs at a zero = rw (add-zero, pow-zero, mul-one) (sym (add-zero _))
num-add bs at a (suc b) =
    rw (add-suc, num-add bs at a b, pow-suc, ← mul_assoc (num_at bs at a) (2 ^ b) 2, ← add_assoc at a b) (omega arith)

-- a run inside n bits from the octet that it starts in
num-window : (bs : List Bool) (at w n : ℕ) → at % 8 + w ≤ n → num_at bs (at / 8 * 8) n / 2 ^ (n - (at % 8 + w)) % 2 ^ w ≡ num_at bs at w
num-window bs at w n h =
    let b = at / 8 * 8 in
    let k = at % 8 in
    let r = n - (k + w) in
    let e : n ≡ k + w + r = omega arith in
    let f : num_at bs b n ≡ num_at bs b (k + w) * 2 ^ r + num_at bs (b + (k + w)) r = ap (num_at bs b) e ∙ num-add bs b (k + w) r in
    let g : b + k ≡ at = omega arith in
    rw (f, high (num_at bs b (k + w)) r (num_at-lt bs (b + (k + w)) r), num-add bs b k w, g, low (num_at bs b k) w (num_at-lt bs at w))

-- what follows a place in its octet
pub num-rest : (bs : List Bool) (at x m : ℕ) → (at % 8 ≡ 0 → ⊥) → x ≡ num_at bs (at / 8 * 8) 8 → m ≡ 2 ^ (8 - at % 8) → x % m ≡ num_at bs at (fill at)
num-rest bs at x m h p q =
    let b = at / 8 * 8 in
    let k = at % 8 in
    let w = 8 - k in
    let e : 8 ≡ k + w = omega arith in
    let g : b + k ≡ at = omega arith in
    let r : w ≡ (8 - at % 8) % 8 = omega arith in
    let f : num_at bs b 8 ≡ num_at bs b k * 2 ^ w + num_at bs at w =
    ap (num_at bs b) e ∙ num-add bs b k w ∙ ap (λ (n : ℕ). num_at bs b k * 2 ^ w + num_at bs n w) g in
    rw (p, q, f, low (num_at bs b k) w (num_at-lt bs at w)) (ap (num_at bs at) r)

pub num-none : (bs : List Bool) (at w : ℕ) → w ≡ 0 → 0 ≡ num_at bs at w
unfolding num_at
num-none bs at w e = rw e

-- ---- the same, from what the callees ensure
pub join : (bs : List Bool) (i j n m a b : ℕ) → a ≡ num_at bs (i * 8) n → b ≡ num_at bs (j * 8) m → i * 8 + n ≡ j * 8
    → a * 2 ^ m + b ≡ num_at bs (i * 8) (n + m)
join bs i j n m a b p q e = rw (p, q, num-add, e)

pub part : (bs : List Bool) (at w n x m : ℕ) → x ≡ num_at bs (at / 8 * 8) n → m ≡ 2 ^ w → at % 8 + w ≤ n
    → x / 2 ^ (n - (at % 8 + w)) % m ≡ num_at bs at w
part bs at w n x m p q h = rw (p, q) (num-window bs at w n h)

pub pow-up : (m w : ℕ) → m ≡ 2 ^ w → 0 < m
pow-up m w e = rw e (pow_pos w)
