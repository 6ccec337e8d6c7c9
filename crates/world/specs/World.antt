-- Both ends of a link and what is under way between them (docs/FLIGHT.md).
use Rattle.std.specs.Prelude.{List, ℕ}
use Rattle.bench.specs.declared.reply.Setup as ground
use Rattle.air_bench.specs.declared.reply.Setup as air
use Rattle.channel.specs.declared.Letter.{Letter}
use Rattle.channel.specs.Channel.{held_in}
use Rattle.world.specs.declared.state.World as code

-- the two boxes; what is under way, the oldest first; the number of the last start request that was sent, and of the one that the aircraft heard last and did
-- not refuse
pub record World : Type 0 where
  pub ground_end : ground.Setup
  pub air : air.Setup
  pub under : List Letter
  pub last : ℕ
  pub taken : ℕ

-- "more than 16 would be under way" is refused
abbrev pub MOST : ℕ
MOST = 16

abbrev pub world_of : code.World → World
world_of w = record { ground_end = w.ground_end; air = w.air; under = held_in w.held; last = w.last; taken = w.taken }
