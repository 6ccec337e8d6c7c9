use mathlib.Core.Path.{◌≡◌}
use mathlib.Core.Bool.{Bool, true}
use Prim.Native.Nat.{ℕ}
use mathlib.Core.List.{[]}
use lib.ListN.{length}
use Rattle.text_lines.specs.Pulls.{left, left_of}
use Rattle.script.specs.Playing.{Plays}
use Rattle.bench.specs.Replies.{ground_bench}
use Rattle.bench.specs.declared.reply.Setup.{Setup}
use Rattle.bench.proofs.player.run.Given as goal

abbrev pub invariant-loop : goal.invariant-loop
invariant-loop l = (length l.chunk ≡ length l.initial.chunk) × (length l.line ≡ length l.initial.line) × (length l.out ≡ length l.initial.out) × ((n : ℕ) (b : Setup) (f : Bool) → Plays ground_bench (length l.initial.line) (left_of l.input l.chunk) l.e.number l.e.setup n b f → Plays ground_bench (length l.initial.line) (left true []) l.initial.e.number l.initial.e.setup n b f)
