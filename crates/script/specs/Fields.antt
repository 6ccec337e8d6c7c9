-- What follows the word of a line (01, "Script words"): "one space between; HEX is a PDU in lower case, or left out when empty. N has no sign or leading zero
-- and fits 32 bits."
use Rattle.std.specs.Prelude.{◌≡◌, List, [], ℕ, eqb, length, take, drop}
use Rattle.text.specs.Text.{pick, hex_good, octets_of}
use Rattle.text.specs.Numbers.{number_of}
use Rattle.std.specs.Prelude.{Option, Some, None}
use Rattle.script.specs.declared.line.Held as held

-- what may follow a word: the word is not taken, it stands alone, HEX, N
abbrev pub NEVER : ℕ
NEVER = 0

abbrev pub ALONE : ℕ
ALONE = 1

abbrev pub HEX : ℕ
HEX = 2

abbrev pub NUMBER : ℕ
NUMBER = 3

-- octets, a number, or text that is neither
pub data Field : Type 0 where
  garbled : Field
  holds : List ℕ → Field
  counts : ℕ → Field

-- what stands behind a word is empty, or its first octet is the space. Nothing
unfoldable pub alone_field : List ℕ → Field
alone_field tail = pick (eqb (length tail) 0) (holds []) garbled

-- HEX
unfoldable pub hex_field : List ℕ → Field
hex_field tail =
    pick (eqb (length tail) 0) (holds [])
    (pick (eqb (length tail) 1) garbled (pick (hex_good (drop 1 tail)) (holds (octets_of (drop 1 tail))) garbled))

-- N
unfoldable pub number_after : List ℕ → Option ℕ
number_after tail = pick (eqb (length tail) 0) None (number_of (drop 1 tail))

unfoldable pub counted : Option ℕ → Field
counted (Some n) = counts n
counted None = garbled

-- what stands behind a word, read as what may follow it
unfoldable pub field_of : ℕ → List ℕ → Field
field_of shape tail =
    pick (eqb shape ALONE) (alone_field tail) (pick (eqb shape HEX) (hex_field tail) (pick (eqb shape NUMBER) (counted (number_after tail)) garbled))

-- what the code's answer says, with the buffer in which octets stand
unfoldable pub held_in : held.Held → List ℕ → Field
held_in (held.TheVariants.Octets n) o = holds (take n o)
held_in (held.TheVariants.Number n) o = counts n
held_in held.TheVariants.Unread o = garbled

-- the same where no octets were read, whatever the buffer has
pub record Says (r : held.Held) (f : Field) : Type 0 where
  pub is : (o : List ℕ) → held_in r o ≡ f
