use Rattle.std.proofs.Common.{◌≤◌, length}
use Rattle.log_bench.proofs.player.pull_block.Given as goal

abbrev pub invariant-loop : goal.invariant-loop
invariant-loop l = l.len ≤ length l.block
