-- Playing the flight log block by block (02, L6): "block by block in this order". A block is judged wholly before anything of it counts.
use Rattle.std.specs.Prelude.{true, false, List, ℕ, length, replicate}
use Rattle.link.specs.Names.{timers}
use Rattle.ground_answer.specs.declared.answer.Answer.{Answer}
use Rattle.ground_answer.specs.Answers.{refusal}
use Rattle.ground_answer.specs.Record.{fresh}
use Rattle.bench.specs.declared.reply.Setup.{Setup}
use Rattle.log_blocks.specs.Log.{Read, got, bad, read_block}
use Rattle.log_blocks.specs.Record.{Rec, form_one}
use Rattle.log_blocks.specs.Play.{Step, went, refused, Trace, with_records, play}
use Rattle.log_play.specs.Steps.{step_of, came_with}
use Rattle.log_play.specs.declared.record.Stepped.{Stepped}
use Rattle.log_play.specs.declared.block.Played.{Played}

-- what the code says of a step: a refusal leaves the box, and nothing is said
abbrev pub stays : Setup → Stepped
stays b = record { went = false; setup = b; said = (refusal b.link 0).said; came = 0 }

unfoldable pub step_in : Setup → ℕ → Step Setup Answer → Stepped
step_in b n (went t a) = record { went = true; setup = t; said = a.said; came = n }
step_in b n refused = stays b

unfoldable pub stepped_by : Setup → Rec → Stepped
stepped_by b r = step_in b (length (came_with b r)) (step_of b r)

-- block n: its records are read, and each is played
unfoldable pub play_block : Setup → ℕ → List ℕ → Read (Trace Setup Answer)
play_block b n block = with_records (read_block form_one n block) (play step_of b)

-- a refused block leaves the box as it was
unfoldable pub played_in : Setup → Read (Trace Setup Answer) → Played
played_in b (got t) = record { refusal = 0; setup = t.state }
played_in b (bad e) = record { refusal = e; setup = b }

-- a box that has no settings yet
abbrev pub blank : Setup
blank = record { ready = false; link = fresh (replicate timers 0) }
