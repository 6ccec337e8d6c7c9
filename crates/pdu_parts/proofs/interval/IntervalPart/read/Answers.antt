use native.Mathlib.Omega.{arith}
use Rattle.per.proofs.Compose.{in-choice, in-alt, num-most}
use Rattle.pdu_parts.specs.Interval.{interval_c}
use Rattle.pdu_parts.proofs.interval.IntervalPart.read.Goals as goal

pub returns-then-i-eq0 : goal.returns-then-i-eq0
unfolding interval_c
returns-then-i-eq0 c = in-choice _ _ _ 0 c.if-i-eq0.true c.index-i.ensures (in-alt _ _ _ _ _ _ c.num-n.ensures)

pub returns : goal.returns
unfolding interval_c
returns c = let i = c.index-i in
    let h = num-most 0 1 i.ensures in
    in-choice _ _ _ 1 (omega arith) i.ensures (in-alt _ _ _ _ _ _ c.num-n-2.ensures)
