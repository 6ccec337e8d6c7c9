-- The answer to one line of an air script, and the box after it.
use Rattle.std.specs.Prelude.{true, false, List, ℕ, eqb}
use Rattle.refusals.specs.Refusals.{SCRIPT-LINE}
use Rattle.text.specs.Letters.{ascii}
use Rattle.text.specs.Text.{pick}
use Rattle.std.specs.Prelude.{Option, Some, None}
use Rattle.air_answer.specs.declared.record.AirLink.{AirLink}
use Rattle.air_answer.specs.Record.{fresh}
use Rattle.air_answer.specs.Fresh.{opened}
use Rattle.air_answer.specs.declared.answer.Answer.{Answer}
use Rattle.air_answer.specs.declared.fresh.Opened.{Opened}
use Rattle.air.specs.Runs.{answered}
use Rattle.air_line.specs.Lines.{Asked, air_script}
use Rattle.air_line.specs.AnswerText.{answer_text}
use Rattle.script.specs.Fields.{number_after}
use Rattle.script.specs.Replies.{Reply, refused_reply, Bench}
use Rattle.script.specs.Replies as script
use Rattle.air_bench.specs.declared.reply.Setup.{Setup}

abbrev pub ready_setup : AirLink → Setup
ready_setup l = record { ready = true; link = l }

-- a call's answer, with the octets that came beside it
unfoldable pub answer_reply : Answer → List ℕ → Reply Setup
answer_reply a s = record { box = ready_setup a.link; text = answer_text a.said s }

-- `set` and EM3's setting; 3 leaves the box without a link
unfoldable pub open_reply : Setup → Opened → Reply Setup
open_reply b o = pick (eqb o.refusal 0) (record { box = ready_setup o.link; text = ascii "ok" }) (refused_reply b o.refusal)

-- F121: "one number, EM3's setting; another count is 17 before 3"
unfoldable pub setting_reply : Setup → Option ℕ → Reply Setup
setting_reply b (Some n) = open_reply b (opened n)
setting_reply b None = refused_reply b SCRIPT-LINE

-- a box before its setting, and the first line
unfoldable pub begun : Reply Setup
begun = record { box = record { ready = false; link = fresh 0 }; text = ascii "adsc air trace 1\n" }

-- the air box at the bench
abbrev pub air_bench : Bench Setup Asked
air_bench = record {
  script = air_script;
  begun = begun;
  ready = λ b. b.ready;
  sets = λ b tail. setting_reply b (number_after tail);
  answers = λ b c s. answer_reply (answered b.link c.call c.list s) s;
}

abbrev pub line_reply : Setup → List ℕ → Reply Setup
line_reply = script.line_reply air_bench
