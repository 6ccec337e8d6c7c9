-- The one bit fact, both ways, over the width. Assumes nothing.
use Rattle.std.specs.Prelude.{ℕ, zero, suc, ◌+◌, ◌-◌, ◌*◌, ◌/◌, ◌%◌, ◌^◌, ◌≤◌, ◌<◌, ◌≡◌, refl, Bool, true, false, List, [], ◌∷◌, ◌++◌, length, get_or, drop}
use Rattle.std.proofs.Common.{sym, ap, ◌∙◌, append_assoc, pow-suc, add-zero, add-suc, arith, length-append, drop-cons, get_or-drop}
use Rattle.std.proofs.Math.Seq.{get_or-append_seam}
use Rattle.per.specs.Bits.{of_bit, to_bit, to_bits, num_at, width_in}

pub of_bit-lt : (b : Bool) → of_bit b < 2
unfolding of_bit
of_bit-lt true = omega arith
of_bit-lt false = omega arith

pub to-of : (b : Bool) → to_bit (of_bit b) ≡ b
unfolding of_bit to_bit
to-of true = refl
to-of false = refl

pub of-to : (n : ℕ) → n < 2 → of_bit (to_bit n) ≡ n
unfolding of_bit to_bit
of-to zero h = refl
of-to (suc n) h = omega arith

pub length-to_bits : (w v : ℕ) → length (to_bits w v) ≡ w
unfolding to_bits
length-to_bits zero v = refl
length-to_bits (suc w) v = length-append (to_bits w (v / 2)) _ ∙ omega (arith, length-to_bits w (v / 2))

pub num_at-lt : (bs : List Bool) (at w : ℕ) → num_at bs at w < 2 ^ w
unfolding num_at
num_at-lt bs at zero = omega arith
num_at-lt bs at (suc w) = omega (arith, pow-suc 2 w, num_at-lt bs at w, of_bit-lt (get_or bs (at + w) false))

-- what is written reads back
pub num-there : (w v : ℕ) (bs rest : List Bool) (at : ℕ) → v < 2 ^ w → drop at bs ≡ to_bits w v ++ rest → num_at bs at w ≡ v
unfolding num_at to_bits
num-there zero v bs rest at h e = omega arith
num-there (suc w) v bs rest at h e =
    let tail : List Bool = to_bit (v % 2) ∷ rest in
    let e' : drop at bs ≡ to_bits w (v / 2) ++ tail = e ∙ append_assoc (to_bits w (v / 2)) (to_bit (v % 2) ∷ []) rest in
    let i : num_at bs at w ≡ v / 2 = num-there w (v / 2) bs tail at (omega (arith, pow-suc 2 w)) e' in
    let g : get_or bs (at + w) false ≡ to_bit (v % 2) =
    sym (get_or-drop at bs w false) ∙ ap (λ (l : List Bool). get_or l w false) e'
    ∙ ap (λ (n : ℕ). get_or (to_bits w (v / 2) ++ tail) n false) (sym (length-to_bits w (v / 2)))
    ∙ get_or-append_seam (to_bits w (v / 2)) (to_bit (v % 2)) rest false in
    let b : of_bit (get_or bs (at + w) false) ≡ v % 2 = ap of_bit g ∙ of-to (v % 2) (omega arith) in
    omega arith

-- what was read, written back, gives the same bits
pub num-back : (w : ℕ) (bs : List Bool) (at : ℕ) → w ≤ length bs - at → drop at bs ≡ to_bits w (num_at bs at w) ++ drop (at + w) bs
unfolding num_at to_bits
num-back zero bs at h = rw add-zero
num-back (suc w) bs at h =
    let b : ℕ = of_bit (get_or bs (at + w) false) in
    let lt : b < 2 = of_bit-lt (get_or bs (at + w) false) in
    let n : ℕ = num_at bs at w in
    let hi : (n * 2 + b) / 2 ≡ n = omega arith in
    let lo : (n * 2 + b) % 2 ≡ b = omega arith in
    let d : drop (at + w) bs ≡ get_or bs (at + w) false ∷ drop (at + suc w) bs =
    drop-cons bs (at + w) false (omega arith) ∙ rw (← add-suc at w) in
    num-back w bs at (omega arith) ∙ rw (hi, lo, to-of, append_assoc, d)

-- the fewest bits are enough
pub width-holds : (k n : ℕ) → n ≤ k → n < 2 ^ width_in k n
unfolding width_in
width-holds zero n h = omega arith
width-holds (suc k) zero h = omega arith
width-holds (suc k) (suc n) h = omega (arith, pow-suc 2 (width_in k (suc n / 2)), width-holds k (suc n / 2) (omega arith))

-- and no fewer would be: n has a 1 at the topmost of them
pub width-fewest : (k n : ℕ) → suc n ≤ k → 2 ^ width_in k (suc n) ≤ 2 * suc n
unfolding width_in
width-fewest zero n h = absurd (omega arith)
width-fewest (suc zero) n h = omega arith
width-fewest (suc (suc k)) zero h = omega arith
width-fewest (suc (suc k)) (suc n) h =
    let e : suc (suc n) / 2 ≡ suc (n / 2) = omega arith in
    rw e (omega (arith, pow-suc 2 (width_in (suc k) (suc (n / 2))), width-fewest (suc k) (n / 2) (omega arith)))
