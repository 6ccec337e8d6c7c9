use Prim.Native.Nat.{ℕ, ◌-◌, ◌≤◌}
use mathlib.Core.Path.{◌≡◌}
use lib.ListN.{length}
use Rattle.bench.specs.declared.reply.Setup.{Setup}
use Rattle.log_blocks.specs.Places.{from}
use Rattle.log_bench.specs.Shown.{Shows}
use Rattle.log_bench.proofs.show.show_block.Given as goal

abbrev pub invariant-loop-r : goal.invariant-loop-r
invariant-loop-r l = (l.at ≤ 510)
    × (length l.out ≡ length l.initial.out)
    × ((n : ℕ) (s : Setup) → Shows (from l.block l.at) l.e.number l.e.setup n s → Shows (from l.block 6) l.initial.e.number l.initial.e.setup n s)

abbrev pub decreases-loop-r : goal.decreases-loop-r
decreases-loop-r l = 512 - l.at
