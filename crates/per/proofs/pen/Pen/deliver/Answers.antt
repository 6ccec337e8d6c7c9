use Rattle.std.proofs.Common.{◌∙◌}
use Rattle.per.proofs.Sheets.{octets-for-is, deliver-kept, deliver-off, deliver-short, deliver-good}
use Rattle.per.proofs.pen.Pen.deliver.Goals as goal
use Rattle.per.proofs.pen.Pen.deliver.Goals.{then-sheet-n-via-then-sheet-n, then-sheet-n-via-else-sheet-n+then-out-n}

pub returns-then-self-ne0 : goal.returns-then-self-ne0
returns-then-self-ne0 c = deliver-kept _ _ _ c.if-self-ne0.true

pub returns-then-sheet-n : goal.returns-then-sheet-n
returns-then-sheet-n c = let n = c.div_ceil-n.ensures ∙ octets-for-is c.args.self.at in
    rw c.number.ensures.is (elim c.then-sheet-n.branch [
      | then-sheet-n-via-then-sheet-n w ↦ deliver-off _ _ _ c.if-self-ne0.false (rw n at w.if-sheet-n.true)
      | then-sheet-n-via-else-sheet-n+then-out-n w ↦ deliver-short _ _ _ c.if-self-ne0.false (rw n at w.if-sheet-n.false) (rw n at w.if-out-n.true)
    ])

pub returns : goal.returns
returns c = let n = c.div_ceil-n.ensures ∙ octets-for-is c.args.self.at in
    rw n (deliver-good _ _ _ c.if-self-ne0.false (rw n at c.if-sheet-n.false) (rw n at c.if-out-n.false) (rw (c.copy_from_slice.ensures.after, n)))
