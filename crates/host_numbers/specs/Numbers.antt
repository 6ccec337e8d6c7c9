-- What stands at one place of a flat list, which holds numbers below 2^32.
use Rattle.std.specs.Prelude.{Bool, true, false, not, cond, List, ℕ, eqb, ltb, get_or, replicate, ℤ}
use Rattle.std.proofs.lemmas.List.Edits.{sets}
use Rattle.std.specs.Int.{w32}
use Rattle.std.proofs.Common.{to_z, of_z}
use Rattle.per.specs.declared.cursor.Signed.{Signed}

-- a truth value is 0 or 1
unfoldable pub truth : ℕ → Bool
truth n = not (eqb n 0)

-- the number at i. A truth value above 1 is a field out of range (5), which a value of the declared type cannot hold: the number beside it is made one that no range has
unfoldable pub number_by : List ℕ → ℕ → ℕ → ℕ
number_by f flag i = cond (ltb (get_or f flag 0) 2) (get_or f i 0) 4294967295

abbrev pub bit_of : Bool → ℕ
bit_of true = 1
bit_of false = 0

-- a number with a sign, in two's complement of 32 bits
unfoldable pub twos : ℤ → ℕ
twos z = of_z w32 z

unfoldable pub signed_of : ℕ → Signed
signed_of n = record { number = to_z w32 n }

-- a list's octets in 128, zeros where there are none; what stands after the 128th is not looked at
unfoldable pub items_of : List ℕ → List ℕ
items_of s = sets (replicate 128 0) 0 s
