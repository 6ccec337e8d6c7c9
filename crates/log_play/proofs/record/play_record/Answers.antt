use mathlib.Core.Path.{◌∙◌}
use Rattle.log_play.proofs.Calls.{step-ready, step-blank}
use Rattle.log_play.proofs.record.play_record.Goals as goal

pub returns-then-b : goal.returns-then-b
returns-then-b c = c.play_call.ensures ∙ step-ready _ _ c.if-b.true

pub returns : goal.returns
returns c = c.open_record.ensures ∙ step-blank _ _ c.if-b.false
