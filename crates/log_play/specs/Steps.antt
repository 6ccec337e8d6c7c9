-- What a record of the flight log asks of a box (02, L6): "A record is call kind (1 octet: the place of its script word in document 01, from 0), seconds (4, zero
-- unless the call is an elapse), data length (1), data; a request's data is its written PDU, and the settings are the first record, 36 octets of data", and of L8
-- "a settings record in the log holds forty octets; logs with thirty-six are read with LI1 at 86,400".
use Rattle.std.specs.Prelude.{Bool, List, [], ℕ, ◌+◌, eqb, length, get_or, set}
use Rattle.link.specs.Tests.{both, either, pick}
use Rattle.link.specs.Names.{timers}
use Rattle.octets.specs.Octets.{words}
use Rattle.ground_tables.specs.Names.{LI1}
use Rattle.ground_answer.specs.declared.record.Link.{Link}
use Rattle.ground_answer.specs.declared.answer.Answer.{Answer}
use Rattle.ground_answer.specs.declared.fresh.Opened.{Opened}
use Rattle.ground_answer.specs.Answers.{refusal}
use Rattle.ground_answer.specs.Fresh.{opened}
use Rattle.ground.specs.declared.call.Call.{Call}
use Rattle.ground.specs.Runs.{answered}
use Rattle.script.specs.Fields.{ALONE, HEX, NUMBER, Field, garbled, holds, counts}
use Rattle.script.specs.Lines.{Parsed, unread, makes, shapes_of, call_of}
use Rattle.bench_line.specs.Words.{ground_words}
use Rattle.bench_line.specs.Lines.{ground_script}
use Rattle.bench.specs.Replies.{ready_setup}
use Rattle.bench.specs.declared.reply.Setup.{Setup}
use Rattle.log_blocks.specs.Record.{Rec}
use Rattle.log_blocks.specs.Play.{Step, went, refused}

-- what a record has for a word that may be followed so: "a field its call doesn't use" is not readable
unfoldable pub field_in : ℕ → ℕ → List ℕ → Field
field_in shape seconds s =
    pick (eqb shape NUMBER) (pick (eqb (length s) 0) (counts seconds) garbled)
    (pick (eqb seconds 0)
    (pick (eqb shape HEX) (holds s) (pick (eqb shape ALONE) (pick (eqb (length s) 0) (holds []) garbled) garbled))
    garbled)

-- the number of a record's word, of which 01's first is 1. Nothing may follow `set`, nor a kind that is no word: "Settings in any other place are 20"
abbrev pub word_of : ℕ → ℕ
word_of kind = kind + 1

-- the call that it makes, and the octets beside it: those of the script line with its word
unfoldable pub call_in : Rec → Parsed Call
call_in r = call_of ground_script (word_of r.kind) (field_in (get_or (shapes_of ground_words) (word_of r.kind) 0) r.seconds r.octets)

-- "refused in play" is 20: a log has accepted calls alone
unfoldable pub accepted : Answer → Step Setup Answer
accepted a = pick (eqb a.said.refusal 0) (went (ready_setup a.link) a) refused

unfoldable pub call_step : Link → Parsed Call → Step Setup Answer
call_step l (makes c s) = accepted (answered l c s)
call_step l unread = refused

-- ten numbers of four octets; before L8 nine
abbrev pub SETTINGS-OCTETS : ℕ
SETTINGS-OCTETS = 40

abbrev pub OLD-OCTETS : ℕ
OLD-OCTETS = 36

unfoldable pub settings_long : ℕ → Bool
settings_long n = either (eqb n SETTINGS-OCTETS) (eqb n OLD-OCTETS)

unfoldable pub is_settings : Rec → Bool
is_settings r = both (eqb r.kind 0) (both (eqb r.seconds 0) (settings_long (length r.octets)))

-- the setting of LI1 where the record has none
abbrev pub OLD-LI1 : ℕ
OLD-LI1 = 86400

-- the settings that its data spells
unfoldable pub settings_of : List ℕ → List ℕ
settings_of s = pick (eqb (length s) OLD-OCTETS) (set (words s 0 timers) LI1 OLD-LI1) (words s 0 timers)

-- a new link answers with nothing said; bad settings are refused
abbrev pub open_answer : Opened → Answer
open_answer o = refusal o.link o.refusal

-- anything else first is "no settings first"
unfoldable pub open_step : Rec → Step Setup Answer
open_step r = pick (is_settings r) (accepted (open_answer (opened (settings_of r.octets)))) refused

-- a box, which has its settings or not yet, and a record
unfoldable pub step_of : Setup → Rec → Step Setup Answer
step_of b r = pick b.ready (call_step b.link (call_in r)) (open_step r)

-- the octets that came with the call, which an indication shows
unfoldable pub beside_of : Parsed Call → List ℕ
beside_of (makes c s) = s
beside_of unread = []

unfoldable pub came_with : Setup → Rec → List ℕ
came_with b r = pick b.ready (beside_of (call_in r)) []
