-- What both ends hear, the ground first (docs/FLIGHT.md).
use Rattle.std.specs.Prelude.{List, [], ◌++◌, ℕ, eqb}
use Rattle.text.specs.Letters.{ascii}
use Rattle.text.specs.Text.{pick}
use Rattle.pdu_parts.specs.Lists.{no_list}
use Rattle.ground.specs.declared.call.Call as ground
use Rattle.air.specs.declared.call.Call as air
use Rattle.ground_answer.specs.declared.answer.Said as ground_said
use Rattle.air_answer.specs.declared.answer.Said as air_said
use Rattle.bench_line.specs.AnswerText as ground_text
use Rattle.air_line.specs.AnswerText as air_text
use Rattle.script.specs.Replies.{Reply}
use Rattle.world.specs.World.{World, world_of}
use Rattle.world.specs.GroundTurns as to_ground
use Rattle.world.specs.AirTurns as to_air
use Rattle.flight_line.specs.Users.{refused}
use Rattle.flight_line.specs.declared.both.Both as code

pub record Both : Type 0 where
  pub world : World
  pub ground_end : ground_said.Said
  pub air : air_said.Said

abbrev pub both_of : code.Both → Both
both_of b = record { world = world_of b.world; ground_end = b.ground_end; air = b.air }

unfoldable pub both_with : to_ground.Turn → to_air.Turn → Both
both_with t u = record { world = u.world; ground_end = t.said; air = u.said }

unfoldable pub both_hear : World → ground.Call → air.Call → Both
both_hear w g a = let t = to_ground.turned w g [] in both_with t (to_air.turned t.world t.world.taken a no_list [])

-- "`elapse` and `cut` are answered by both"
unfoldable pub both_text : Both → List ℕ
both_text b = ascii "ground " ++ (ground_text.answer_text b.ground_end [] ++ (ascii " air " ++ air_text.answer_text b.air []))

-- the most that both say
abbrev pub BOTH-MOST : ℕ
BOTH-MOST = 4100

abbrev pub both_reply : Both → Reply World
both_reply b = record { box = b.world; text = both_text b }

-- "If an end refuses, the line is refused with the first number, and neither clock has moved"
unfoldable pub unless_refused : World → Both → Reply World
unless_refused w b =
    pick (eqb b.ground_end.refusal 0) (pick (eqb b.air.refusal 0) (both_reply b) (refused w b.air.refusal)) (refused w b.ground_end.refusal)

unfoldable pub elapse_reply : World → ℕ → Reply World
elapse_reply w n = unless_refused w (both_hear w (ground.TheVariants.Elapse n) (air.TheVariants.Elapse n))

-- "both ends hear `down`, the ground first"
unfoldable pub cut_reply : World → Reply World
cut_reply w = both_reply (both_hear w ground.TheVariants.Down air.TheVariants.Down)
