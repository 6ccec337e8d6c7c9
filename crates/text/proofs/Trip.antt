-- Hexadecimal text, there and back; and what a buffer holds after it was read. Over the definitions alone. Assumes nothing.
use mathlib.Core.Path.{◌≡◌, refl}
use mathlib.Core.Bool.{Bool, true}
use mathlib.Core.List.{List, [], ◌∷◌}
use mathlib.Core.Logic.{⊎_elim}
use Prim.Native.Nat.{ℕ, zero, suc, ◌+◌, ◌*◌, ◌/◌, ◌%◌, ◌≤◌, ◌<◌}
use native.Mathlib.Nat.{not-suc-le-zero, le_of_suc-le-suc, eq-or-lt_of_le}
use native.Mathlib.Omega.{arith}
use borrow.Author.Tests.{eqb-true, le-leb}
use lib.Dec.{eqb}
use lib.ListN.{length, take}
use lib.Seq.{sets-eq, take_at}
use Rattle.text.specs.Text.{both, digit_of, glyph_of, hex_text, octets_of, hex_good, hex_into}
use Rattle.text.proofs.Laws.{both_true}

-- a test that passes below n passes at each number below n
below : ℕ → (ℕ → Bool) → Bool
below zero f = true
below (suc n) f = both (f n) (below n f)

below_at : (n : ℕ) (f : ℕ → Bool) → below n f ≡ true → (k : ℕ) → k < n → f k ≡ true
unfolding below
below_at zero f t k h = absurd (not-suc-le-zero h)
below_at (suc n) f t k h =
    let b = both_true (f n) (below n f) t in
    ⊎_elim (λ (e : k ≡ n). rw e b.0) (λ (l : k < n). below_at n f b.1 k l) (eq-or-lt_of_le (le_of_suc-le-suc h))

there_and_back : ℕ → Bool
there_and_back d = eqb (digit_of (glyph_of d)) d

glyph-test : below 16 there_and_back ≡ true
unfolding below there_and_back digit_of glyph_of
glyph-test = refl

glyph-digit : (d : ℕ) → d < 16 → digit_of (glyph_of d) ≡ d
unfolding there_and_back
glyph-digit d h = eqb-true _ _ (below_at 16 there_and_back glyph-test d h)

-- every element is an octet
pub Octets : List ℕ → Type 0
Octets [] = Unit {0}
Octets (o ∷ os) = (o < 256) × Octets os

pub octets-hex : (os : List ℕ) → Octets os → octets_of (hex_text os) ≡ os
unfolding Octets
octets-hex [] h = refl
octets-hex (o ∷ os) h =
    let b : o < 256 = h.0 in
    let hi : o / 16 < 16 = omega arith in
    let lo : o % 16 < 16 = omega arith in
    let e : o / 16 * 16 + o % 16 ≡ o = omega arith in
    rw (glyph-digit _ hi, glyph-digit _ lo, e, octets-hex os h.1)

-- how many octets a text spells
pub octets-length : (s : List ℕ) → length (octets_of s) ≡ length s / 2
octets-length [] = refl
octets-length (a ∷ []) = refl
octets-length (a ∷ b ∷ s) = omega (arith, octets-length s)

-- what was read stands at the front of the buffer
pub read-front : (out s : List ℕ) → hex_good s ≡ true → length s / 2 ≤ length out → take (length s / 2) (hex_into out s) ≡ octets_of s
unfolding hex_into
read-front out s g h =
    let n = octets-length s in
    let z : 0 + length (octets_of s) ≤ length out = omega (arith, n) in
    rw (g, le-leb _ _ h, sets-eq (octets_of s) out 0 z) (take_at (octets_of s) _ (length s / 2) n)
