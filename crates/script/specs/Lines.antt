-- A line of a script (01, "Script words"): "One call a line". Over the words of any side and the calls that they make.
use Rattle.std.specs.Prelude.{◌≡◌, Bool, true, false, List, [], ◌∷◌, ℕ, ◌≤◌, leb, ltb, length, get_or, take, drop, Option, Some, None}
use Prim.Native.String.{String}
use Rattle.text.specs.Letters.{ascii}
use Rattle.text.specs.Text.{pick, same_text, word_end}
use Rattle.text.specs.Words.{found_from}
use Rattle.script.specs.Fields.{NEVER, Field, garbled, holds, counts, field_of, held_in}
use Rattle.script.specs.declared.line.Heard as code

-- a call with the octets beside it; or nothing that is readable, which is 17
pub data Parsed (Call : Type 0) : Type 0 where
  unread : Parsed Call
  makes : Call → List ℕ → Parsed Call

-- a word, and what may follow it
pub record Word : Type 0 where
  pub text : List ℕ
  pub follows : ℕ

abbrev pub word : String → ℕ → Word
word s f = record { text = ascii s; follows = f }

abbrev pub texts_of : List Word → List (List ℕ)
texts_of [] = []
texts_of (w ∷ ws) = w.text ∷ texts_of ws

abbrev pub shapes_of : List Word → List ℕ
shapes_of [] = []
shapes_of (w ∷ ws) = w.follows ∷ shapes_of ws

-- the number of a line's word, and what follows it
pub record Heard : Type 0 where
  pub word : ℕ
  pub field : Field

abbrev pub heard : ℕ → Field → Heard
heard w f = record { word = w; field = f }

-- "lines over 4,096 octets are 17". Word 0 is the empty one, and any other text is taken for it
unfoldable pub heard_line : List (List ℕ) → List ℕ → List ℕ → Heard
heard_line texts shapes line =
    pick (ltb 4096 (length line)) (heard 0 garbled)
    (let w = found_from 0 (take (word_end line) line) texts in heard w (field_of (get_or shapes w NEVER) (drop (word_end line) line)))

-- with a buffer for `room` octets: 2,048 are enough for any line, and with fewer none is read
unfoldable pub heard_into : ℕ → List (List ℕ) → List ℕ → List ℕ → Heard
heard_into room texts shapes line = pick (leb 2048 room) (heard_line texts shapes line) (heard 0 garbled)

-- what the code's answer says, with the buffer in which octets stand
unfoldable pub heard_in : code.Heard → List ℕ → Heard
heard_in r o = heard r.word (held_in r.held o)

-- a side's script: its words, and the call of the word with a number, from the octets or the number that follow it
pub record Script (Call : Type 0) : Type 0 where
  pub words : List Word
  pub with_octets : ℕ → List ℕ → Parsed Call
  pub with_number : ℕ → ℕ → Parsed Call

module _ {Call : Type 0} (s : Script Call) where
  unfoldable pub call_of : ℕ → Field → Parsed Call
  call_of w (holds o) = s.with_octets w o
  call_of w (counts n) = s.with_number w n
  call_of w garbled = unread

  -- what a line asks of a box that has its settings
  unfoldable pub parsed_line : List ℕ → Parsed Call
  parsed_line line = let h = heard_line (texts_of s.words) (shapes_of s.words) line in call_of h.word h.field

  -- with a buffer for `room` octets
  unfoldable pub parsed_into : ℕ → List ℕ → Parsed Call
  parsed_into room line = pick (leb 2048 room) (parsed_line line) unread

-- a line whose word is `set`, which a box takes as long as it has no settings
unfoldable pub is_set : List ℕ → Bool
is_set line = pick (ltb 4096 (length line)) false (same_text (take (word_end line) line) (ascii "set"))

-- what `set_part` gives: where the word of the line ends, if it is one
pub record SetFrom (line : List ℕ) (from : ℕ) : Type 0 where
  pub found_is : is_set line ≡ true
  pub from_is : from ≡ word_end line
  pub within : from ≤ length line

abbrev pub SetPartOf : List ℕ → Option ℕ → Type 0
SetPartOf line (Some from) = SetFrom line from
SetPartOf line None = is_set line ≡ false
