-- The next line of an input, whatever the reads bring. A contract cannot say what they do.
use Rattle.std.specs.Prelude.{◌≡◌, Bool, true, false, List, [], ◌∷◌, ◌++◌, ◌⊎◌, ℕ, ◌≤◌, ◌<◌, ltb, length, take, drop}
use Rattle.text.specs.Text.{pick}
use Rattle.text_lines.specs.Lines.{gathered}
use Rattle.text_lines.specs.declared.input.Input.{Input}
use Rattle.text_lines.specs.declared.input.Line.{Line}

-- an input between two lines: can more be read, and what is left of the piece that was read last
pub record Left : Type 0 where
  pub more : Bool
  pub piece : List ℕ

abbrev pub left : Bool → List ℕ → Left
left m p = record { more = m; piece = p }

-- that of the code, whose chunk holds the piece
abbrev pub left_of : Input → List ℕ → Left
left_of i chunk = left i.«open» (drop i.from (take i.count chunk))

-- the octets of the line with those of a piece, of which at most `most` are kept
abbrev pub kept_with : ℕ → List ℕ → List ℕ → List ℕ
kept_with most kept p = take most (kept ++ (gathered p).octets)

-- from an input with the octets `kept` of a line, to which the reads bring a text, comes the line, if it is found, and what is left of the input after it
pub data Pulled (most : ℕ) : List ℕ → Left → List ℕ → List ℕ → Bool → Left → Type 0 where
  -- the line ends in the piece
  ends : {kept p : List ℕ} {m : Bool} → (gathered p).ended ≡ true
      → Pulled most kept (left m p) [] (kept_with most kept p) true (left m (drop (gathered p).used p))
  -- it goes on in the piece that is read next
  goes_on : {kept p text line : List ℕ} {found : Bool} {after : Left} (next : Left) → (gathered p).ended ≡ false
      → Pulled most (kept_with most kept p) next text line found after → Pulled most kept (left true p) (next.piece ++ text) line found after
  -- nothing more is read, or nothing more can be written
  closes : {kept p text line : List ℕ} {found : Bool} {after : Left} → Pulled most kept (left false p) text line found after
      → Pulled most kept (left true p) text line found after
  -- and so the line stops: "a last one without it counts", if it is not empty
  stops : {kept p : List ℕ} → (gathered p).ended ≡ false
      → Pulled most kept (left false p) [] (kept_with most kept p) (ltb 0 (length (kept_with most kept p))) (left false (drop (gathered p).used p))

-- the lines that come one after the other until none is found, and the text that the reads bring meanwhile
pub data Pulled-all (most : ℕ) : Left → List ℕ → List (List ℕ) → Type 0 where
  none : {a b : Left} {t l : List ℕ} → Pulled most [] a t l false b → Pulled-all most a t []
  one : {a b : Left} {t u l : List ℕ} {ls : List (List ℕ)} → Pulled most [] a t l true b → Pulled-all most b u ls → Pulled-all most a (t ++ u) (l ∷ ls)

-- with some text or other that the reads brought
pub record Brought (most : ℕ) (kept : List ℕ) (before : Left) (line : List ℕ) (found : Bool) (after : Left) : Type 0 where
  pub text : List ℕ
  pub pulled : Pulled most kept before text line found after

-- what `pull_line` gives: the line in its buffer, and a page with room for its answer. Where a read failed, no line
pub record Pulls (most : ℕ) (before : Left) (r : Line) (chunk line : List ℕ) : Type 0 where
  pub none_failed : r.failed ≡ true → r.found ≡ false
  pub line_is : r.failed ≡ false → Brought most [] before (take r.len line) r.found (left_of r.input chunk)
  pub within : r.len ≤ length line
  pub room : r.at < 65536

-- an input that is closed
abbrev pub shut : Input → Input
shut i = record { from = i.from; count = i.count; «open» = false }

-- what `start_line` gives: no octets yet; the input as it was, or closed
pub record Starts (i : Input) (r : Line) : Type 0 where
  pub empty : r.len ≡ 0
  pub well : r.failed ≡ false
  pub input_is : (r.input ≡ i) ⊎ (r.input ≡ shut i)
  pub room : r.at < 65536

-- what `extend` gives: the line with what the piece has of it
pub record Extends (l : Line) (chunk line : List ℕ) (r : Line) (out : List ℕ) : Type 0 where
  pub kept_is : take r.len out ≡ kept_with (length line) (take l.len line) (left_of l.input chunk).piece
  pub left_is : left_of r.input chunk ≡ left l.input.«open» (drop (gathered (left_of l.input chunk).piece).used (left_of l.input chunk).piece)
  pub found_is : r.found ≡ pick (gathered (left_of l.input chunk).piece).ended true (pick l.input.«open» false (ltb 0 r.len))
  pub within : r.len ≤ length out
  pub at_is : r.at ≡ l.at
  pub failed_is : r.failed ≡ l.failed

-- what `refill` gives: the line so far, and an empty page. A contract cannot say what the read brings
pub record Refills (l r : Line) : Type 0 where
  pub len_is : r.len ≡ l.len
  pub found_is : r.found ≡ l.found
  pub empty : r.at ≡ 0
