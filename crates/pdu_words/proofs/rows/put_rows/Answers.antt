use mathlib.Core.Path.{refl, ◌∙◌}
use lib.ListN.{drop_of_length-le}
use Rattle.pdu_words.proofs.Loops.{row_step}
use Rattle.pdu_words.proofs.rows.put_rows.Goals as goal

pub loop-row-init : goal.loop-row-init
loop-row-init c = refl

pub loop-row-preserved : goal.loop-row-preserved
loop-row-preserved c = let s = c.args in
    row_step s.table.now s.f.now s.items.now c.loop-row.row-index _ c.loop-row-test.true c.put_row-a.ensures ∙ c.loop-row.invariant

pub returns : goal.returns
returns c = let e = drop_of_length-le c.args.table.now c.loop-row-test.false in
    record { is = rw e at c.loop-row.invariant }
