use Rattle.std.proofs.Common.{◌≡◌, ◌+◌, ◌*◌, ◌≤◌, drop}
use Rattle.log_blocks.specs.Block.{weighted}
use Rattle.log_blocks.proofs.weigh.Given as goal

abbrev pub invariant-loop-i : goal.invariant-loop-i
invariant-loop-i l = record { small : l.sum ≤ 130050 * l.i; rest : l.sum + weighted (l.i + 1) (drop l.i l.s) ≡ weighted 1 l.s }
