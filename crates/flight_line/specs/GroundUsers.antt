-- What the user of the ground does (docs/FLIGHT.md): "the answer as in that end's own trace".
use Rattle.std.specs.Prelude.{List, ℕ}
use Rattle.refusals.specs.Refusals.{SCRIPT-LINE}
use Rattle.text.specs.Text.{pick}
use Rattle.ground.specs.declared.call.Call.{Call}
use Rattle.bench_line.specs.Lines.{parsed_line}
use Rattle.bench_line.specs.AnswerText.{answer_text}
use Rattle.script.specs.Lines.{Parsed, unread, makes}
use Rattle.script.specs.Replies.{Reply}
use Rattle.bench.specs.Replies.{line_reply}
use Rattle.bench.specs.declared.reply.Setup.{Setup}
use Rattle.world.specs.World.{World}
use Rattle.world.specs.GroundTurns.{Turn, turned}
use Rattle.flight_line.specs.Users.{is_user, refused}

unfoldable pub ground_said : Turn → List ℕ → Reply World
ground_said t s = record { box = t.world; text = answer_text t.said s }

-- a call of a ground that has its settings
unfoldable pub ground_asked : World → Parsed Call → Reply World
ground_asked w (makes c s) = ground_said (turned w c s) s
ground_asked w unread = refused w SCRIPT-LINE

-- a ground that has none answers as at its bench
unfoldable pub ground_with : World → Reply Setup → Reply World
ground_with w r = record { box = record { ground_end = r.box; air = w.air; under = w.under; last = w.last; taken = w.taken }; text = r.text }

unfoldable pub ground_set : World → List ℕ → Reply World
ground_set w line = ground_with w (line_reply w.ground_end line)

unfoldable pub ground_user : World → List ℕ → Reply World
ground_user w line = pick (is_user line) (pick w.ground_end.ready (ground_asked w (parsed_line line)) (ground_set w line)) (refused w SCRIPT-LINE)
