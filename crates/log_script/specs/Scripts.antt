-- The records of a whole script, as the log keeps them.
use Rattle.std.specs.Prelude.{false, List, [], ◌∷◌, ◌++◌, ℕ}
use Rattle.ground.specs.declared.call.Call.{Call}
use Rattle.ground.specs.Runs.{Made}
use Rattle.script.specs.Lines.{Parsed, unread, makes}
use Rattle.bench_line.specs.Lines.{parsed_line}
use Rattle.bench.specs.declared.reply.Setup.{Setup}
use Rattle.bench.specs.Replies.{line_reply}
use Rattle.log_blocks.specs.Record.{Rec, noted}
use Rattle.log_blocks.specs.Tapes.{tape, recorder}
use Rattle.log_script.specs.Heard.{line_kept, heard_line}
use Rattle.log_script.specs.Notes.{Desk, desk, line_on}

-- "Of longer data the first 129 octets are kept"
abbrev pub noted_all : List Rec → List Rec
noted_all [] = []
noted_all (r ∷ rs) = noted r ∷ noted_all rs

abbrev pub script_kept : Setup → List (List ℕ) → List Rec
script_kept b [] = []
script_kept b (line ∷ lines) = noted_all (line_kept b line) ++ script_kept (line_reply b line).box lines

-- ---- and the log that its lines leave: none before the first, with a block of any octets
abbrev pub new_desk : Setup → List ℕ → Desk
new_desk b block = desk b (recorder (tape 0 0) block []) false

-- each line is asked of the box after the one before
abbrev pub lines_on : Desk → List (List ℕ) → Desk
lines_on d [] = d
lines_on d (line ∷ lines) = lines_on (line_on d (heard_line d.box line)) lines

-- ---- the calls that lines ask of a box that has its settings
abbrev pub onto : Parsed Call → List Made → List Made
onto (makes c s) cs = record { call = c; octets = s } ∷ cs
onto unread cs = cs

abbrev pub calls_in : List (List ℕ) → List Made
calls_in [] = []
calls_in (line ∷ lines) = onto (parsed_line line) (calls_in lines)
