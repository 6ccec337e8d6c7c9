-- Text as lists of octets: words, hexadecimal octets in lower case (01, "Script words"), and numbers in decimal.
use Rattle.std.specs.Prelude.{◌≡◌, Bool, true, false, List, [], ◌∷◌, ℕ, zero, suc, ◌+◌, ◌-◌, ◌*◌, ◌/◌, ◌%◌, ◌≤◌, min, eqb, leb, ltb, length, drop, Result, Ok, Err}
use Rattle.std.proofs.lemmas.List.Edits.{sets}
use Rattle.text.specs.declared.Spelt.{Spelt}
use Rattle.text.specs.declared.HexFault.{HexFault}
use Rattle.text.specs.declared.HexFault.TheVariants.{Long, Garbled}

abbrev pub pick {ℓ} : {A : Type ℓ} → Bool → A → A → A
pick true a b = a
pick false a b = b

abbrev pub both : Bool → Bool → Bool
both true b = b
both false b = false

-- the value of a hexadecimal digit in lower case; 16 for any other octet
unfoldable pub digit_of : ℕ → ℕ
digit_of c = pick (ltb c 48) 16 (pick (ltb c 58) (c - 48) (pick (ltb c 97) 16 (pick (ltb c 103) (c - 87) 16)))

-- every octet is such a digit
abbrev pub all_hex : List ℕ → Bool
all_hex [] = true
all_hex (c ∷ cs) = both (ltb (digit_of c) 16) (all_hex cs)

-- digits alone, an even number of them
unfoldable pub hex_good : List ℕ → Bool
hex_good s = both (all_hex s) (eqb (length s % 2) 0)

-- the octets that pairs of digits spell
abbrev pub octets_of : List ℕ → List ℕ
octets_of [] = []
octets_of (a ∷ []) = []
octets_of (a ∷ b ∷ s) = (digit_of a * 16 + digit_of b) ∷ octets_of s

-- what reading hexadecimal text into a buffer of `most` octets finds
unfoldable pub hex_of : ℕ → List ℕ → Result ℕ HexFault
hex_of most s = pick (hex_good s) (pick (leb (length s / 2) most) (Ok (length s / 2)) (Err Long)) (Err Garbled)

-- and what the buffer then holds: the octets at its front, or what it held
unfoldable pub hex_into : List ℕ → List ℕ → List ℕ
hex_into out s = pick (hex_good s) (pick (leb (length s / 2) (length out)) (sets out 0 (octets_of s)) out) out

-- what `parse_hex` gives
pub record HexRead (out s : List ℕ) (r : Result ℕ HexFault) (after : List ℕ) : Type 0 where
  pub found_is : r ≡ hex_of (length out) s
  pub buffer_is : after ≡ hex_into out s

-- where the first space stands, or the end
abbrev pub word_end : List ℕ → ℕ
word_end [] = 0
word_end (c ∷ cs) = pick (eqb c 32) 0 (1 + word_end cs)

-- what `word_end` gives: a place in the text
pub record WordEnds (s : List ℕ) (r : ℕ) : Type 0 where
  pub is : r ≡ word_end s
  pub within : r ≤ length s

-- the same octets
abbrev pub same_text : List ℕ → List ℕ → Bool
same_text [] [] = true
same_text [] (y ∷ ys) = false
same_text (x ∷ xs) [] = false
same_text (x ∷ xs) (y ∷ ys) = both (eqb x y) (same_text xs ys)

-- a digit below 16 as text
unfoldable pub glyph_of : ℕ → ℕ
glyph_of d = pick (ltb d 10) (48 + d) (87 + d)

-- octets as hexadecimal text
abbrev pub hex_text : List ℕ → List ℕ
hex_text [] = []
hex_text (o ∷ os) = glyph_of (o / 16) ∷ glyph_of (o % 16) ∷ hex_text os

-- the digits of n above its last one, at most k of them, in front of the text t, which begins at that last one
abbrev pub decimal_onto : ℕ → ℕ → List ℕ → List ℕ
decimal_onto zero n t = t
decimal_onto (suc k) n t = pick (ltb n 10) t (decimal_onto k (n / 10) ((48 + n / 10 % 10) ∷ t))

-- a number below 10^20 in decimal
unfoldable pub decimal : ℕ → List ℕ
decimal n = decimal_onto 19 n ((48 + n % 10) ∷ [])

-- what `spell` gives: the digits stand from `from` on in twenty octets
pub record Spells (n : ℕ) (r : Spelt) : Type 0 where
  pub digits : drop r.from r.text ≡ decimal n
  pub within : r.from ≤ 19
  pub size : length r.text ≡ 20

-- what `least` gives: the lesser of two, which is within the second
pub record Least (a b r : ℕ) : Type 0 where
  pub is : r ≡ min a b
  pub within : r ≤ b
