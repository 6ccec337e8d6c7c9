use lib.Seq.{length-take-le}
use mathlib.Core.Path.{sym, ◌∙◌}
use native.Mathlib.Omega.{arith}
use Rattle.log_blocks.proofs.Judges.{not-a-block, check-wrong, none-due, number-wrong, rest-judged}
use Rattle.log_blocks.proofs.check_block.Goals as goal

pub returns-then-block-ne-BLOCK : goal.returns-then-block-ne-BLOCK
returns-then-block-ne-BLOCK c = not-a-block _ c.args.block.now c.if-block-ne-BLOCK.true

pub slice_bounds-check_of-end : goal.slice_bounds-check_of-end
slice_bounds-check_of-end c = sym (length-take-le 510 c.args.block.now (omega arith))

pub check_of-sum-requires : goal.check_of-sum-requires
check_of-sum-requires c = omega (arith, length-take-le 510 c.args.block.now (omega arith))

pub returns-then-check-sum : goal.returns-then-check-sum
returns-then-check-sum c = let a = c.args in
    check-wrong a.number a.block.now c.if-block-ne-BLOCK.false (λ e. c.if-check-sum.true (c.read_pair-check.ensures ∙ e ∙ sym c.check_of-sum.ensures))

pub returns-then-number-ge-BLOCKS : goal.returns-then-number-ge-BLOCKS
returns-then-number-ge-BLOCKS c = let a = c.args in
    none-due a.number a.block.now c.if-block-ne-BLOCK.false (sym c.read_pair-check.ensures ∙ c.if-check-sum.false ∙ c.check_of-sum.ensures) c.if-number-ge-BLOCKS.true

pub returns-then-n-number : goal.returns-then-n-number
returns-then-n-number c = let a = c.args in
    number-wrong a.number a.block.now c.if-block-ne-BLOCK.false (sym c.read_pair-check.ensures ∙ c.if-check-sum.false ∙ c.check_of-sum.ensures) c.if-number-ge-BLOCKS.false
    (λ e. c.if-n-number.true (c.read_word-n.ensures ∙ e))

pub returns : goal.returns
returns c = let a = c.args in
    c.judge_length.ensures
    ∙ rest-judged a.number a.block.now c.if-block-ne-BLOCK.false (sym c.read_pair-check.ensures ∙ c.if-check-sum.false ∙ c.check_of-sum.ensures) c.if-number-ge-BLOCKS.false
    (sym c.read_word-n.ensures ∙ c.if-n-number.false)
