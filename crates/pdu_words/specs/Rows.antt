-- A PDU in words is rows, one after another: a row is shown for some kinds of PDU and under a guard; it is a label, a number in one of the ways, and a unit.
-- docs/DECISIONS.md, T1 to T14, has what was chosen where the drafts are silent.
use Rattle.std.specs.Prelude.{Bool, true, false, not, List, [], ◌∷◌, ◌++◌, ℕ, ◌/◌, ◌%◌, ◌^◌, eqb, ltb, get_or}
use Rattle.std.specs.Int.Bits.{bit_and}
use Prim.Native.String.{String}
use Rattle.text.specs.Letters.{ascii}
use Rattle.text.specs.Text.{pick, both}
use Rattle.pdu_words.specs.Ways.{Way, nothing, way_text}

-- kinds of PDU, a bit for each
abbrev pub only : ℕ → ℕ
only kind = 2 ^ kind

abbrev pub every : ℕ
every = 4095

unfoldable pub shows_kind : ℕ → ℕ → Bool
shows_kind kinds kind = pick (ltb kind 12) (eqb (kinds / 2 ^ kind % 2) 1) false

-- what a guard asks of a number: nothing; a presence bit; that it is m; that it is not; that its bits in a mask are m
pub data Test : Type 0 where
  any : Test
  bit : ℕ → Test
  same : ℕ → Test
  other : ℕ → Test
  masked : ℕ → ℕ → Test

unfoldable pub passes : Test → ℕ → Bool
passes any n = true
passes (bit b) n = eqb (n / b % 2) 1
passes (same m) n = eqb n m
passes (other m) n = not (eqb n m)
passes (masked b m) n = eqb (bit_and n b) m

pub record Guard : Type 0 where
  pub place : ℕ
  pub test : Test

abbrev pub always : Guard
always = record { place = 0; test = any }

abbrev pub has : ℕ → ℕ → Guard
has p b = record { place = p; test = bit b }

abbrev pub is : ℕ → ℕ → Guard
is p m = record { place = p; test = same m }

abbrev pub isnt : ℕ → ℕ → Guard
isnt p m = record { place = p; test = other m }

abbrev pub bits : ℕ → ℕ → ℕ → Guard
bits p b m = record { place = p; test = masked b m }

pub record Row : Type 0 where
  pub kinds : ℕ
  pub guard : Guard
  pub label : List ℕ
  pub way : Way
  pub place : ℕ
  pub unit : List ℕ

-- a row with a number, and one of words alone
abbrev pub row : ℕ → Guard → String → Way → ℕ → String → Row
row k g l w p u = record { kinds = k; guard = g; label = ascii l; way = w; place = p; unit = ascii u }

abbrev pub say : ℕ → Guard → String → String → Row
say k g l u = row k g l nothing 0 u

-- f are the numbers of a PDU (host_numbers), of which the first is its kind
unfoldable pub chosen : Row → List ℕ → Bool
chosen r f = both (shows_kind r.kinds (get_or f 0 0)) (passes r.guard.test (get_or f r.guard.place 0))

-- and `items` the octets of its list
unfoldable pub row_text : Row → List ℕ → List ℕ → List ℕ
row_text r f items = pick (chosen r f) (r.label ++ (way_text r.way (get_or f r.place 0) items ++ r.unit)) []

abbrev pub rows_text : List Row → List ℕ → List ℕ → List ℕ
rows_text [] f items = []
rows_text (r ∷ rs) f items = row_text r f items ++ rows_text rs f items
