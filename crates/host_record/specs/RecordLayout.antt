-- The link record as octets. Numbers of more than one octet have the most significant octet first.
use Rattle.std.specs.Prelude.{◌≡◌, List, [], ◌∷◌, ◌++◌, ℕ, eqb, length, get_or}
use Rattle.link.specs.Tests.{pick}
use Rattle.link.specs.Names.{timers}
use Rattle.octets.specs.Octets.{quads, word_at, words}
use Rattle.ground_tables.specs.declared.intervals.Intervals.{Intervals}
use Rattle.ground_answer.specs.Record.{made}
use Rattle.ground_answer.specs.declared.record.Link.{Link}

-- the five states
abbrev pub five : List ℕ → List ℕ
five at = get_or at 0 0 ∷ get_or at 1 0 ∷ get_or at 2 0 ∷ get_or at 3 0 ∷ get_or at 4 0 ∷ []

-- the interval asked for, and the one in force
abbrev pub interval_octets : Intervals → List ℕ
interval_octets i = quads (i.asked ∷ i.force ∷ [])

abbrev pub RECORD-OCTETS : ℕ
RECORD-OCTETS = 93

-- what follows the settings: all that a call can change
abbrev pub rest_octets : Link → List ℕ
rest_octets l = quads l.left ++ (five l.at ++ interval_octets l.interval)

-- 0 to 39 the ten settings in watch order; 40 to 79 the seconds left; 80 to 84 the states of DC, EC, PC, EM and LI; 85 to 92 the intervals
unfoldable pub record_octets : Link → List ℕ
record_octets l = quads l.setting ++ rest_octets l

-- the settings and the seconds left that octets spell
pub record Spelled (s setting left : List ℕ) : Type 0 where
  pub settings : setting ≡ words s 0 timers
  pub lefts : left ≡ words s 40 timers

-- and back; octets that are not there are 0
unfoldable pub link_of : List ℕ → Link
link_of s =
    made (words s 0 timers) (words s 40 timers) (get_or s 80 0 ∷ get_or s 81 0 ∷ get_or s 82 0 ∷ get_or s 83 0 ∷ get_or s 84 0 ∷ [])
    (record { asked = word_at s 85; force = word_at s 89 })

-- a record into the octets of one; other lengths are no record, and stay
unfoldable pub saved : Link → List ℕ → List ℕ
saved l s = pick (eqb (length s) RECORD-OCTETS) (record_octets l) s
