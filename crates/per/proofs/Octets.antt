-- The bits of octets, and the fewest bits as the machine counts them. Assumes nothing.
use Prim.Native.Nat.{ℕ, zero, suc, ◌+◌, ◌-◌, ◌*◌, ◌/◌, ◌%◌, ◌^◌, ◌≤◌, ◌<◌, min}
use mathlib.Core.Path.{◌≡◌, refl, sym, ap, ◌∙◌}
use mathlib.Core.Bool.{Bool}
use mathlib.Core.List.{List, [], ◌∷◌, ◌++◌}
use native.Mathlib.Nat.{pow-suc, add-zero}
use native.Mathlib.Omega.{arith}
use lib.ListN.{length, get_or, take, drop, length-append, length-take}
use lib.Seq.{drop-cons, drop_at, drop-drop, drop-nil, get_or-take, take_all}
use lib.Count.{count_leading_zeros}
use Rattle.per.specs.Bits.{to_bits, num_at, bits_of, width, width_in}
use Rattle.per.specs.laws.Bits.{length-to_bits, num-there}
use Rattle.per.specs.Pdu.{window}

pub length-bits_of : (s : List ℕ) → length (bits_of s) ≡ length s * 8
unfolding bits_of
length-bits_of [] = refl
length-bits_of (o ∷ s) = length-append (to_bits 8 o) (bits_of s) ∙ omega (arith, length-to_bits 8 o, length-bits_of s)

pub window-length : (s : List ℕ) → length (window s) ≡ min 128 (length s) * 8
unfolding window
window-length s = length-bits_of (take 128 s) ∙ ap (λ (n : ℕ). n * 8) (length-take 128 s)

pub window-most : (s : List ℕ) → length (window s) ≤ 1024
window-most s = omega (arith, window-length s)

-- a run that is there lies in whole octets that are there
pub seat : (s : List ℕ) (at w n : ℕ) → w ≤ length (window s) - at → 0 < w → n % 8 ≡ 0 → n < at % 8 + w + 8 → at / 8 * 8 + n ≤ length (window s)
seat s at w n h z e l = omega (arith, window-length s)

-- within 128 octets every bit is there
pub window-all : (s : List ℕ) → length s ≤ 128 → window s ≡ bits_of s
unfolding window
window-all s h = ap bits_of (take_all 128 s h)

-- the bits from octet i on
drop-octets : (i : ℕ) (s : List ℕ) → drop (i * 8) (bits_of s) ≡ bits_of (drop i s)
unfolding bits_of
drop-octets zero s = refl
drop-octets (suc i) [] = drop-nil (suc i * 8)
drop-octets (suc i) (o ∷ s) =
    let e : suc i * 8 ≡ 8 + i * 8 = omega arith in
    ap (λ (n : ℕ). drop n (to_bits 8 o ++ bits_of s)) e ∙ sym (drop-drop (i * 8) 8 (to_bits 8 o ++ bits_of s))
    ∙ ap (λ (l : List Bool). drop (i * 8) l) (drop_at (to_bits 8 o) (bits_of s) 8 (length-to_bits 8 o)) ∙ drop-octets i s

octet-at : (s : List ℕ) (i : ℕ) → i < length s → get_or s i 0 < 256 → num_at (bits_of s) (i * 8) 8 ≡ get_or s i 0
unfolding bits_of
octet-at s i h l = num-there 8 (get_or s i 0) (bits_of s) (bits_of (drop (suc i) s)) (i * 8) l (drop-octets i s ∙ ap bits_of (drop-cons s i 0 h))

-- an octet that is read
pub window-octet : (s : List ℕ) (i : ℕ) → i * 8 + 8 ≤ length (window s) → i < length s
window-octet s i h = omega (arith, window-length s)

pub octet-is : (s : List ℕ) (i : ℕ) → i * 8 + 8 ≤ length (window s) → get_or s i 0 < 256 → get_or s i 0 ≡ num_at (window s) (i * 8) 8
unfolding window
octet-is s i h l =
    let n : i < length (take 128 s) = omega (arith, length-bits_of (take 128 s)) in
    let m : i < 128 = omega (arith, length-take 128 s) in
    let e : get_or (take 128 s) i 0 ≡ get_or s i 0 = get_or-take 128 s i 0 m in
    sym e ∙ sym (octet-at (take 128 s) i n (rw e l))

-- ---- the fewest bits
width-leading : (k n : ℕ) → count_leading_zeros k n + width_in k n ≡ k
unfolding width_in count_leading_zeros
width-leading zero n = refl
width-leading (suc k) zero = add-zero (suc k)
width-leading (suc k) (suc n) = omega (arith, width-leading k (suc n / 2))

width-zero : (m : ℕ) → width_in m 0 ≡ 0
unfolding width_in
width-zero zero = refl
width-zero (suc m) = refl

-- any number of steps that is enough gives the same
width-steps : (k m n : ℕ) → n < 2 ^ k → n < 2 ^ m → width_in k n ≡ width_in m n
unfolding width_in
width-steps zero m zero h l = sym (width-zero m)
width-steps zero m (suc n) h l = absurd (omega arith)
width-steps (suc k) m zero h l = sym (width-zero m)
width-steps (suc k) zero (suc n) h l = absurd (omega arith)
width-steps (suc k) (suc m) (suc n) h l = ap suc (width-steps k m (suc n / 2) (omega (arith, pow-suc 2 k)) (omega (arith, pow-suc 2 m)))

lt-pow : (n : ℕ) → n < 2 ^ n
lt-pow zero = omega arith
lt-pow (suc n) = omega (arith, pow-suc 2 n, lt-pow n)

pub width_is : (n : ℕ) → n < 2 ^ 32 → 32 - count_leading_zeros 32 n ≡ width n
unfolding width
width_is n h = omega (arith, width-leading 32 n, width-steps 32 n n h (lt-pow n))

pub width-32 : (n : ℕ) → n < 2 ^ 32 → width n ≤ 32
unfolding width
width-32 n h = omega (arith, width-leading 32 n, width-steps 32 n n h (lt-pow n))
