-- The log of a script while it is written: `log`'s recorder, beside the box that the lines are asked of.
use Rattle.std.specs.Prelude.{◌≡◌, Bool, true, false, Option, Some, None, Result, Ok, Err, List, [], ◌∷◌, ◌++◌, ℕ, length, take}
use Rattle.text.specs.Text.{pick}
use Rattle.text.specs.Page.{Page, page, Writes}
use Rattle.bench.specs.declared.reply.Setup.{Setup}
use Rattle.log_blocks.specs.declared.Tape.{Tape}
use Rattle.log_blocks.specs.declared.NotWritten.{NotWritten}
use Rattle.log_blocks.specs.declared.NotWritten.TheVariants.{Full, Ended, Refused}
use Rattle.log_blocks.specs.declared.Unfit.{Unfit}
use Rattle.log_blocks.specs.Record.{Rec, rec, noted}
use Rattle.log_blocks.specs.Tapes.{appended, appended_to, finished, finished_to, recorder, note_all}
use Rattle.log_blocks.specs.Tapes as tapes
use Rattle.log_script.specs.declared.line.Kept.{Kept}
use Rattle.log_script.specs.declared.recorder.Recorder.{Recorder}
use Rattle.log_script.specs.Heard.{Heard}

-- ---- the box, the log, and whether it has ended
pub record Desk : Type 0 where
  pub box : Setup
  pub log : tapes.Recorder
  pub ended : Bool

abbrev pub desk : Setup → tapes.Recorder → Bool → Desk
desk b l e = record { box = b; log = l; ended = e }

abbrev pub ends : Result Tape NotWritten → Bool
ends (Ok t) = false
ends (Err Full) = false
ends (Err Ended) = true
ends (Err Refused) = true

unfoldable pub note_on : Desk → Rec → Desk
note_on d x = desk d.box (note_all d.log (x ∷ [])) (ends (appended d.log.at d.log.block x))

-- a log that has ended takes no record more, so that what it has plays as the calls went
abbrev pub kept_on : Desk → List Rec → Desk
kept_on d [] = d
kept_on d (x ∷ xs) = kept_on (pick d.ended d (note_on d (noted x))) xs

-- the box after a line, and its record in the log
unfoldable pub line_on : Desk → Heard → Desk
line_on d h = kept_on (desk h.box d.log d.ended) h.kept

-- ---- what the code has of it: a block, and a page on which the finished ones stand
abbrev pub desk_of : Recorder → List ℕ → Desk
desk_of r b = desk r.setup (recorder r.tape b []) r.ended

abbrev pub text_of : List (List ℕ) → List ℕ
text_of [] = []
text_of (b ∷ bs) = b ++ text_of bs

pub record Leaves (d : Desk) (p : Page) (r : Recorder) (b out : List ℕ) : Type 0 where
  pub box_is : r.setup ≡ d.box
  pub tape_is : r.tape ≡ d.log.at
  pub ended_is : r.ended ≡ d.ended
  pub block_is : b ≡ d.log.block
  pub page_is : Writes p (text_of d.log.done) (page out r.at)

-- ---- its steps
-- the record that is kept of a line, as the log keeps it
abbrev pub entry_rec : Kept → List ℕ → Rec
entry_rec k o = noted (rec k.kind k.seconds (take k.len o))

-- a log goes on where the record was written, and has ended where it was not
abbrev pub settled : Recorder → Result Tape NotWritten → Recorder
settled r (Ok t) = record { setup = r.setup; tape = t; at = r.at; ended = false }
settled r (Err e) = record { setup = r.setup; tape = r.tape; at = r.at; ended = true }

-- with the pen behind the block that was finished
abbrev pub after_finish : Recorder → ℕ → Result (Option Tape) Unfit → Recorder
after_finish r a (Ok (Some t)) = record { setup = r.setup; tape = t; at = a; ended = false }
after_finish r a (Ok None) = record { setup = r.setup; tape = r.tape; at = a; ended = true }
after_finish r a (Err e) = record { setup = r.setup; tape = r.tape; at = a; ended = true }

-- a block that is finished, and stands on the page
pub record Turns (r : Recorder) (b : List ℕ) (p : Page) (q : Recorder) (left out : List ℕ) : Type 0 where
  pub recorder_is : q ≡ after_finish r q.at (finished r.tape (length b))
  pub block_is : left ≡ finished_to r.tape b
  pub page_is : Writes p left (page out q.at)
