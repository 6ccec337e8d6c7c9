use mathlib.Core.Path.{refl, ap, ◌∙◌}
use native.Mathlib.Omega.{arith}
use Rattle.per.specs.Bits.{width}
use Rattle.per.specs.Formats.{num_field}
use Rattle.per.specs.laws.Codec.{unless-le}
use Rattle.per.proofs.Leaf.{judged-stays, judged-bad, judged-good, above-8, above-le}
use Rattle.per.proofs.cursor.Cursor.num.Goals as goal

pub returns-then-t-ne0 : goal.returns-then-t-ne0
returns-then-t-ne0 c = let w = c.width_of.ensures in
    judged-stays (num_field _ _) (w.0 ∙ ap width c.span.ensures) w.1 c.take-t.ensures refl c.if-t-ne0.true

pub returns-then-above : goal.returns-then-above
returns-then-above c = let w = c.width_of.ensures in
    rw c.refused.ensures (judged-bad (num_field _ _) (w.0 ∙ ap width c.span.ensures) w.1 c.take-t.ensures 7 c.if-t-ne0.false
    (above-8 c.args.lo c.args.hi c.take-t.result.value _ c.above.ensures c.if-above.true))

pub overflow_add-result : goal.overflow_add-result
overflow_add-result c = omega (arith, above-le c.args.lo c.args.hi c.take-t.result.value _ c.above.ensures c.if-above.false)

pub returns : goal.returns
returns c = let w = c.width_of.ensures in
    judged-good (num_field _ _) (w.0 ∙ ap width c.span.ensures) w.1 c.take-t.ensures c.if-t-ne0.false
    (unless-le _ _ 8 (above-le c.args.lo c.args.hi c.take-t.result.value _ c.above.ensures c.if-above.false))
