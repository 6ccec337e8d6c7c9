-- Bits, most significant first (01, "Message table"; X.691, unaligned). Definitions alone: their laws are in laws/Bits.antt.
use Rattle.std.specs.Prelude.{ℕ, zero, suc, ◌+◌, ◌*◌, ◌/◌, ◌%◌, Bool, true, false, List, [], ◌∷◌, ◌++◌, get_or}

-- the number of a bit, and the bit of a number
unfoldable pub of_bit : Bool → ℕ
of_bit true = 1
of_bit false = 0

unfoldable pub to_bit : ℕ → Bool
to_bit zero = false
to_bit (suc n) = true

-- the w lowest bits of v, most significant first
unfoldable pub to_bits : ℕ → ℕ → List Bool
to_bits zero v = []
to_bits (suc w) v = to_bits w (v / 2) ++ (to_bit (v % 2) ∷ [])

-- the number in the w bits from the bit place at
unfoldable pub num_at : List Bool → ℕ → ℕ → ℕ
num_at bs at zero = 0
num_at bs at (suc w) = num_at bs at w * 2 + of_bit (get_or bs (at + w) false)

-- the bits of octets
unfoldable pub bits_of : List ℕ → List Bool
bits_of [] = []
bits_of (o ∷ s) = to_bits 8 o ++ bits_of s

-- the fewest bits that hold n: how often it can be halved before it is 0 (k steps are enough where n is at most k)
unfoldable pub width_in : ℕ → ℕ → ℕ
width_in zero n = 0
width_in (suc k) zero = 0
width_in (suc k) (suc n) = suc (width_in k (suc n / 2))

unfoldable pub width : ℕ → ℕ
width n = width_in n n
