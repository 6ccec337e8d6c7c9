-- Lines of octets (C36): "the octets up to a line feed; a last one without it counts".
use Rattle.std.specs.Prelude.{◌≡◌, Bool, true, false, List, [], ◌∷◌, ◌++◌, ℕ, suc, ◌+◌, eqb, drop}
use Rattle.text.specs.Text.{pick}
use Rattle.text.specs.Page.{Page, Writes}
use Rattle.text_lines.specs.declared.gather.Gathered.{Gathered}

-- a last line without its line feed, which counts if it is not empty
abbrev pub last_of : List ℕ → List (List ℕ)
last_of [] = []
last_of (o ∷ os) = (o ∷ os) ∷ []

-- with the octets `line` in front of the first
abbrev pub lines_from : List ℕ → List ℕ → List (List ℕ)
lines_from line [] = last_of line
lines_from line (o ∷ os) = pick (eqb o 10) (line ∷ lines_from [] os) (lines_from (line ++ (o ∷ [])) os)

-- the lines of a text
unfoldable pub lines_of : List ℕ → List (List ℕ)
lines_of s = lines_from [] s

-- a text up to and with its first line feed: the octets in front of it, how many are used, and whether there is one
pub record Front : Type 0 where
  pub octets : List ℕ
  pub used : ℕ
  pub ended : Bool

abbrev pub front : List ℕ → ℕ → Bool → Front
front t n e = record { octets = t; used = n; ended = e }

-- with an octet before it that is no line feed
abbrev pub before : ℕ → Front → Front
before o f = front (o ∷ f.octets) (suc f.used) f.ended

-- what `gather` looks for
abbrev pub gathered : List ℕ → Front
gathered [] = front [] 0 false
gathered (o ∷ os) = pick (eqb o 10) (front [] 1 true) (before o (gathered os))

-- what `gather` makes of a piece from a place on: the octets go behind those of the line that are kept
pub record Gathers (piece : List ℕ) (from : ℕ) (p : Page) (r : Gathered) (q : Page) : Type 0 where
  pub next_is : r.next ≡ from + (gathered (drop from piece)).used
  pub ended_is : r.ended ≡ (gathered (drop from piece)).ended
  pub kept_is : Writes p (gathered (drop from piece)).octets q
