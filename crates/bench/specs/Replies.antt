-- The answer to one line of a script, and the box after it.
use Rattle.std.specs.Prelude.{true, false, List, ℕ, eqb, replicate, Option, Some, None}
use Rattle.refusals.specs.Refusals.{SCRIPT-LINE}
use Rattle.text.specs.Letters.{ascii}
use Rattle.text.specs.Text.{pick}
use Rattle.link.specs.Names.{timers}
use Rattle.ground_answer.specs.declared.record.Link.{Link}
use Rattle.ground_answer.specs.Record.{fresh}
use Rattle.ground_answer.specs.Fresh.{opened}
use Rattle.ground_answer.specs.declared.answer.Answer.{Answer}
use Rattle.ground_answer.specs.declared.fresh.Opened.{Opened}
use Rattle.ground.specs.declared.call.Call.{Call}
use Rattle.ground.specs.Runs.{answered}
use Rattle.bench_line.specs.Settings.{settings_in}
use Rattle.bench_line.specs.Lines.{ground_script}
use Rattle.bench_line.specs.AnswerText.{answer_text}
use Rattle.script.specs.Replies.{Reply, refused_reply, Bench}
use Rattle.script.specs.Replies as script
use Rattle.bench.specs.declared.reply.Setup.{Setup}

abbrev pub ready_setup : Link → Setup
ready_setup l = record { ready = true; link = l }

-- a call's answer, with the octets that came beside it
unfoldable pub answer_reply : Answer → List ℕ → Reply Setup
answer_reply a s = record { box = ready_setup a.link; text = answer_text a.said s }

-- `set` and ten settings; 3 leaves the box without a link
unfoldable pub open_reply : Setup → Opened → Reply Setup
open_reply b o = pick (eqb o.refusal 0) (record { box = ready_setup o.link; text = ascii "ok" }) (refused_reply b o.refusal)

unfoldable pub listed_reply : Setup → Option (List ℕ) → Reply Setup
listed_reply b (Some s) = open_reply b (opened s)
listed_reply b None = refused_reply b SCRIPT-LINE

unfoldable pub settings_reply : Setup → List ℕ → Reply Setup
settings_reply b tail = listed_reply b (settings_in tail)

-- a box before its settings, and the first line
unfoldable pub begun : Reply Setup
begun = record { box = record { ready = false; link = fresh (replicate timers 0) }; text = ascii "adsc trace 1\n" }

-- the ground's box at the bench
abbrev pub ground_bench : Bench Setup Call
ground_bench = record {
  script = ground_script;
  begun = begun;
  ready = λ b. b.ready;
  sets = settings_reply;
  answers = λ b c s. answer_reply (answered b.link c s) s;
}

abbrev pub line_reply : Setup → List ℕ → Reply Setup
line_reply = script.line_reply ground_bench
