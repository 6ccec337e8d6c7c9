-- What is under way (docs/FLIGHT.md): "with its PDU, in the order of the answers and of their entries", the oldest first.
use Rattle.std.specs.Prelude.{Bool, false, List, [], ◌∷◌, ◌++◌, ℕ, ltb, length, take, get_or, replicate}
use Rattle.std.proofs.lemmas.List.Edits.{sets}
use Rattle.text.specs.Text.{pick}
use Rattle.channel.specs.declared.Letter.{Letter}
use Rattle.channel.specs.declared.Channel.{Channel}

-- room for the octets of any PDU
abbrev pub room : ℕ
room = 115

unfoldable pub no_octets : List ℕ
no_octets = replicate room 0

-- a letter with the octets of a PDU, and zeros
unfoldable pub letter_of : Bool → ℕ → ℕ → List ℕ → Letter
letter_of up number kind s =
    record { up = up; number = number; kind = kind; n = length (take room s); octets = sets no_octets 0 (take room s) }

-- the octets of its PDU
abbrev pub octets_in : Letter → List ℕ
octets_in l = take l.n l.octets

unfoldable pub blank : Letter
blank = record { up = false; number = 0; kind = 0; n = 0; octets = no_octets }

-- the letters under way
unfoldable pub held_in : Channel → List Letter
held_in c = take c.n c.letters

-- there are slots for one more than may be under way, so that it shows where there would be too many
abbrev pub slots : ℕ
slots = 17

unfoldable pub pushed : List Letter → Letter → List Letter
pushed ls l = pick (ltb (length ls) slots) (ls ++ (l ∷ [])) ls

unfoldable pub oldest_of : List Letter → Letter
oldest_of ls = get_or ls 0 blank
