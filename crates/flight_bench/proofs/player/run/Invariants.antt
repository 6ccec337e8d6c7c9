use mathlib.Core.Path.{◌≡◌}
use mathlib.Core.Bool.{Bool, true}
use Prim.Native.Nat.{ℕ}
use mathlib.Core.List.{[]}
use lib.ListN.{length}
use Rattle.text_lines.specs.Pulls.{left, left_of}
use Rattle.flight_bench.specs.Playing.{Plays}
use Rattle.world.specs.World.{World, world_of}
use Rattle.flight_bench.proofs.player.run.Given as goal

abbrev pub invariant-loop-turn : goal.invariant-loop-turn
invariant-loop-turn l = (length l.chunk ≡ length l.initial.chunk) × (length l.line ≡ length l.initial.line) × (length l.out ≡ length l.initial.out) × ((n : ℕ) (b : World) (a : ℕ) (f : Bool) → Plays (length l.initial.line) (left_of l.input l.chunk) l.e.number (world_of l.e.world) n b a f → Plays (length l.initial.line) (left true []) l.initial.e.number (world_of l.initial.e.world) n b a f)
