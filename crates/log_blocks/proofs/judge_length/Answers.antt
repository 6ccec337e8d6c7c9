use mathlib.Core.Bool.{true, false}
use mathlib.Core.Path.{sym, ◌∙◌}
use native.Mathlib.Omega.{arith}
use Rattle.log_blocks.proofs.Judges.{length_over, length-zeros}
use Rattle.log_blocks.proofs.judge_length.Goals as goal

pub returns-then-size-gt-ROOM : goal.returns-then-size-gt-ROOM
returns-then-size-gt-ROOM c = let b = c.args.block.now in
    length_over b c.read_pair-size.result c.read_pair-size.ensures (omega arith)

pub returns-then-all_zero : goal.returns-then-all_zero
returns-then-all_zero c = let b = c.args.block.now in
    length-zeros b c.read_pair-size.result c.read_pair-size.ensures (omega arith) true (sym c.if-all_zero.true ∙ c.all_zero.ensures)

pub returns-else-all_zero : goal.returns-else-all_zero
returns-else-all_zero c = let b = c.args.block.now in
    length-zeros b c.read_pair-size.result c.read_pair-size.ensures (omega arith) false (sym c.if-all_zero.false ∙ c.all_zero.ensures)
