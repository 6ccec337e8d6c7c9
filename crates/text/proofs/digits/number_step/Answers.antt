use mathlib.Core.Path.{◌∙◌}
use Rattle.std.specs.Prelude.{Some, None}
use Rattle.text.specs.Numbers.{stepped_of}
use Rattle.text.proofs.Counting.{step-none, step-bad, step-good}
use Rattle.text.proofs.digits.number_step.Goals as goal
use Rattle.text.proofs.digits.number_step.Goals.{then-s-eq0-via-then-s-eq0, then-s-eq0-via-else-s-eq0+then-s-ne32}

pub returns-then-s-eq0 : goal.returns-then-s-eq0
returns-then-s-eq0 c = elim c.then-s-eq0.branch [
  | then-s-eq0-via-then-s-eq0 w ↦ step-none _ w.if-s-eq0.true
  | then-s-eq0-via-else-s-eq0+then-s-ne32 w ↦ step-bad c.args.s.now w.if-s-eq0.false w.if-s-ne32.true
]

pub returns : goal.returns
unfolding stepped_of
returns c = step-good c.args.s.now _ (Some c.in_ok-value.value) c.if-s-eq0.false c.if-s-ne32.false c.word_end-used.ensures.is c.in_ok-value.ensures

pub returns-in_err-value : goal.returns-in_err-value
unfolding stepped_of
returns-in_err-value c = c.from_residual.ensures ∙ step-good c.args.s.now _ None c.if-s-eq0.false c.if-s-ne32.false c.word_end-used.ensures.is c.in_err-value.ensures
