-- What a line of a script leaves with the recorder (02, L6): "Record every accepted call of one link".
use Rattle.std.specs.Prelude.{◌≡◌, List, [], ◌∷◌, ℕ, eqb, leb, take, drop, Option, Some, None}
use Rattle.text.specs.Text.{pick, word_end}
use Rattle.ground_answer.specs.declared.record.Link.{Link}
use Rattle.ground_answer.specs.Fresh.{opened}
use Rattle.ground.specs.declared.call.Call.{Call}
use Rattle.ground.specs.Runs.{answered}
use Rattle.script.specs.Lines.{Parsed, unread, makes, is_set}
use Rattle.bench_line.specs.Lines.{parsed_line}
use Rattle.bench_line.specs.Settings.{settings_in}
use Rattle.bench.specs.declared.reply.Setup.{Setup}
use Rattle.bench.specs.Replies.{line_reply}
use Rattle.log_blocks.specs.Record.{Rec, rec}
use Rattle.log_play.specs.Records.{record_of, settings_record}
use Rattle.log_script.specs.declared.line.Entry.{Entry}
use Rattle.log_script.specs.declared.line.Kept.{Kept}

-- the record of a call, in its full length, where it is accepted
unfoldable pub call_kept : Link → Parsed Call → List Rec
call_kept l (makes c s) = pick (eqb (answered l c s).said.refusal 0) (record_of c s ∷ []) []
call_kept l unread = []

-- "the settings are the first record"
unfoldable pub settings_kept : Option (List ℕ) → List Rec
settings_kept (Some s) = pick (eqb (opened s).refusal 0) (settings_record s ∷ []) []
settings_kept None = []

unfoldable pub set_kept : List ℕ → List Rec
set_kept line = pick (is_set line) (settings_kept (settings_in (drop (word_end line) line))) []

-- one record or none
unfoldable pub line_kept : Setup → List ℕ → List Rec
line_kept b line = pick b.ready (call_kept b.link (parsed_line line)) (set_kept line)

pub record Heard : Type 0 where
  pub box : Setup
  pub kept : List Rec

abbrev pub heard : Setup → List Rec → Heard
heard b k = record { box = b; kept = k }

-- the box is the one that the bench has after the line
abbrev pub heard_line : Setup → List ℕ → Heard
heard_line b line = heard (line_reply b line).box (line_kept b line)

-- with a buffer for `room` octets: 2,048 are enough for any line, and with fewer none is read
unfoldable pub heard_into : ℕ → Setup → List ℕ → Heard
heard_into room b line = pick (leb 2048 room) (heard_line b line) (heard b [])

-- the record that is kept, with the buffer in which its data stands
abbrev pub kept_in : Option Kept → List ℕ → List Rec
kept_in (Some k) o = rec k.kind k.seconds (take k.len o) ∷ []
kept_in None o = []

pub record Hears (h : Heard) (e : Entry) (o : List ℕ) : Type 0 where
  pub box_is : e.setup ≡ h.box
  pub record_is : kept_in e.kept o ≡ h.kept
