-- What an answer puts under way (docs/FLIGHT.md): "Every entry of an end's answer that is for the dialogue service is under way from then on, with its PDU, in
-- the order of the answers and of their entries".
use Rattle.std.specs.Prelude.{Bool, List, [], ◌∷◌, ℕ, eqb, length, take}
use Rattle.text.specs.Text.{pick, both}
use Rattle.link.specs.Names.{ABORT-REQUEST}
use Rattle.script.specs.Entries.{goes, rest_of}
use Rattle.script.specs.Trace.{bumped}
use Rattle.channel.specs.declared.Letter.{Letter}
use Rattle.channel.specs.Channel.{letter_of, held_in, pushed}
use Rattle.sending.specs.declared.Way as code

-- what is under way, the oldest first, and the number of the dialogue of which an end sends
pub record Way : Type 0 where
  pub under : List Letter
  pub number : ℕ

abbrev pub way : List Letter → ℕ → Way
way ls n = record { under = ls; number = n }

abbrev pub way_of : code.Way → Way
way_of w = way (held_in w.held) w.number

-- the kinds of letters are the entries: start, data, end, abort; the user's abort has no PDU
abbrev pub START : ℕ
START = 1

abbrev pub END : ℕ
END = 3

abbrev pub USER-ABORT : ℕ
USER-ABORT = 5

unfoldable pub kind_of : ℕ → List ℕ → ℕ
kind_of c s = pick (both (eqb c ABORT-REQUEST) (eqb (length s) 0)) USER-ABORT c

-- "start requests are numbered from 1 as they are sent, the ground sends with the last number"; the last number there is stays
unfoldable pub number_for : Bool → ℕ → ℕ → ℕ
number_for up c n = pick (both up (eqb c START)) (bumped n) n

-- one entry that goes, with its octets
unfoldable pub sent_as : Bool → Way → ℕ → List ℕ → Way
sent_as up w c s = let n = number_for up c w.number in way (pushed w.under (letter_of up n (kind_of c s) s)) n

unfoldable pub sent_entry : Bool → Way → ℕ → List ℕ → Way
sent_entry up w c s = pick (goes c) (sent_as up w c s) w

-- the entries of a list, where the first k of the octets are still to go
abbrev pub sent_all : Bool → Way → List ℕ → List ℕ → ℕ → Way
sent_all up w [] s k = w
sent_all up w (c ∷ cs) s k = sent_all up (sent_entry up w c (take k s)) cs s (rest_of c k)

-- the same, from the first of the octets on
abbrev pub sent_said : Bool → Way → List ℕ → List ℕ → Way
sent_said up w cs s = sent_all up w cs s (length s)
