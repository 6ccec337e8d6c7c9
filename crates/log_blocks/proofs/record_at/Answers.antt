use native.Mathlib.Omega.{arith}
use Rattle.log_blocks.proofs.Places.{at_other, at-over, at-end, at_cut, at_long, at-past, at-record}
use Rattle.log_blocks.proofs.record_at.Goals as goal

pub returns-then-block-ne-BLOCK : goal.returns-then-block-ne-BLOCK
returns-then-block-ne-BLOCK c = at_other c.args.block.now c.args.at c.if-block-ne-BLOCK.true

pub returns-then-end-gt510 : goal.returns-then-end-gt510
returns-then-end-gt510 c = let a = c.args in
    at-over a.block.now a.at c.read_pair.result c.if-block-ne-BLOCK.false c.read_pair.ensures (omega arith)

pub returns-then-end-at : goal.returns-then-end-at
returns-then-end-at c = let a = c.args in
    at-end a.block.now a.at c.read_pair.result c.if-block-ne-BLOCK.false c.read_pair.ensures (omega arith) (omega arith)

pub returns-then-start-end : goal.returns-then-start-end
returns-then-start-end c = let a = c.args in
    at_cut a.block.now a.at c.read_pair.result c.if-block-ne-BLOCK.false c.read_pair.ensures (omega arith) (omega arith) (omega arith)

pub overflow_cast-len : goal.overflow_cast-len
overflow_cast-len c = omega (arith, c.octet-len.type_inv)

pub returns-then-len-gt-KEPT : goal.returns-then-len-gt-KEPT
returns-then-len-gt-KEPT c = let a = c.args in
    at_long a.block.now a.at c.read_pair.result c.if-block-ne-BLOCK.false c.read_pair.ensures (omega arith) (omega arith) (omega arith) c.octet-len.result c.octet-len.ensures (omega arith)

pub returns-then-next-end : goal.returns-then-next-end
returns-then-next-end c = let a = c.args in
    at-past a.block.now a.at c.read_pair.result c.if-block-ne-BLOCK.false c.read_pair.ensures (omega arith) (omega arith) (omega arith) c.octet-len.result c.octet-len.ensures (omega arith) (omega arith)

pub returns : goal.returns
returns c = let a = c.args in
    rw (c.read_word.ensures, c.octet.ensures)
    (at-record a.block.now a.at c.read_pair.result c.if-block-ne-BLOCK.false c.read_pair.ensures (omega arith) (omega arith) (omega arith) c.octet-len.result c.octet-len.ensures (omega arith) (omega arith))
