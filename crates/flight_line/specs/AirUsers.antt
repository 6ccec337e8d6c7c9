-- What the user of the aircraft does (docs/FLIGHT.md): "the answer as in that end's own trace".
use Rattle.std.specs.Prelude.{List, ℕ}
use Rattle.refusals.specs.Refusals.{SCRIPT-LINE}
use Rattle.text.specs.Text.{pick}
use Rattle.air_line.specs.Lines.{Asked, parsed_line}
use Rattle.air_line.specs.AnswerText.{answer_text}
use Rattle.script.specs.Lines.{Parsed, unread, makes}
use Rattle.script.specs.Replies.{Reply}
use Rattle.air_bench.specs.Replies.{line_reply}
use Rattle.air_bench.specs.declared.reply.Setup.{Setup}
use Rattle.world.specs.World.{World}
use Rattle.world.specs.AirTurns.{Turn, turned}
use Rattle.flight_line.specs.Users.{is_user, refused}

unfoldable pub air_said : Turn → List ℕ → Reply World
air_said t s = record { box = t.world; text = answer_text t.said s }

-- a call of an aircraft that has its setting, in the dialogue that it is in
unfoldable pub air_asked : World → Parsed Asked → Reply World
air_asked w (makes c s) = air_said (turned w w.taken c.call c.list s) s
air_asked w unread = refused w SCRIPT-LINE

-- an aircraft that has none answers as at its bench
unfoldable pub air_with : World → Reply Setup → Reply World
air_with w r = record { box = record { ground_end = w.ground_end; air = r.box; under = w.under; last = w.last; taken = w.taken }; text = r.text }

unfoldable pub air_set : World → List ℕ → Reply World
air_set w line = air_with w (line_reply w.air line)

unfoldable pub air_user : World → List ℕ → Reply World
air_user w line = pick (is_user line) (pick w.air.ready (air_asked w (parsed_line line)) (air_set w line)) (refused w SCRIPT-LINE)
