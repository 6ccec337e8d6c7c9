-- The answer to one line of a script, and the box after it. Over any box and its calls.
use Rattle.std.specs.Prelude.{◌≡◌, Bool, List, ℕ, ◌≤◌, length, drop}
use Rattle.refusals.specs.Refusals.{SCRIPT-LINE}
use Rattle.text.specs.Text.{pick, word_end}
use Rattle.text.specs.Words.{refused_text}
use Rattle.text.specs.Page.{Page, Writes}
use Rattle.script.specs.Lines.{Parsed, unread, makes, Script, parsed_line, is_set}

pub record Reply (Box : Type 0) : Type 0 where
  pub box : Box
  pub text : List ℕ

abbrev pub refused_reply : {Box : Type 0} → Box → ℕ → Reply Box
refused_reply b n = record { box = b; text = refused_text n }

-- a box at the bench
pub record Bench (Box Call : Type 0) : Type 0 where
  pub script : Script Call
  -- the box before its settings, and the first line of a trace
  pub begun : Reply Box
  -- does it have its settings
  pub ready : Box → Bool
  -- what follows `set`, for a box that has none; a call with its octets, for one that has them
  pub sets : Box → List ℕ → Reply Box
  pub answers : Box → Call → List ℕ → Reply Box

module _ {Box Call : Type 0} (m : Bench Box Call) where
  -- a line for a box that has its settings
  unfoldable pub play_reply : Box → Parsed Call → Reply Box
  play_reply b (makes c s) = m.answers b c s
  play_reply b unread = refused_reply b SCRIPT-LINE

  -- and for one that has none
  unfoldable pub set_reply : Box → List ℕ → Reply Box
  set_reply b line = pick (is_set line) (m.sets b (drop (word_end line) line)) (refused_reply b SCRIPT-LINE)

  -- "Lines before a good `set`, a `set` after it and lines over 4,096 octets are 17."
  unfoldable pub line_reply : Box → List ℕ → Reply Box
  line_reply b line = pick (m.ready b) (play_reply b (parsed_line m.script line)) (set_reply b line)

-- what the code gives: the box, and the text on the page, which is never long
pub record Replies {Box : Type 0} (x : Reply Box) (p : Page) (b : Box) (q : Page) : Type 0 where
  pub box_is : b ≡ x.box
  pub text_is : Writes p x.text q
  pub short : length x.text ≤ 34000
