use Rattle.std.proofs.Common.{sym, ap, ◌∙◌}
use Rattle.refusals.specs.Refusals.{number_or_none}
use Rattle.refusals.proofs.Numbers.{number-some}
use Rattle.per.specs.Formats.{mask}
use Rattle.per.proofs.Inks.{inks-kept}
use Rattle.per.proofs.Checks.{mask-high, mask-barred, mask-inked}
use Rattle.per.proofs.pen.Pen.mask.Goals as goal

pub returns-then-self-ne0 : goal.returns-then-self-ne0
returns-then-self-ne0 c = inks-kept (mask _ _ c.args.need) _ _ _ c.if-self-ne0.true

pub returns-then-all-v : goal.returns-then-all-v
returns-then-all-v c = rw c.number.ensures.is (mask-high _ _ c.args.need c.if-self-ne0.false c.if-all-v.true)

pub returns-in-Some : goal.returns-in-Some
returns-in-Some c =
    rw c.number-in-Some.ensures.is (mask-barred _ _ c.args.need c.if-self-ne0.false _ c.if-all-v.false (ap number_or_none (sym c.in-Some.is) ∙ c.mask_bad-bad.ensures)
    (number-some c.in-Some.refusal))

pub returns : goal.returns
returns c = mask-inked _ _ c.args.need c.if-self-ne0.false c.mask_bad-bad.ensures (ap number_or_none c.in_default.is) c.num.ensures
