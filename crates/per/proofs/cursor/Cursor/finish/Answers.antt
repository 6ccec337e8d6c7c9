use Rattle.std.proofs.Common.{sym, ap, ◌∙◌}
use Rattle.refusals.specs.Refusals.{number_or_none}
use Rattle.per.proofs.Ends.{finish-kept, finish-judged}
use Rattle.per.proofs.cursor.Cursor.finish.Goals as goal

pub returns-then-self-ne0 : goal.returns-then-self-ne0
returns-then-self-ne0 c = finish-kept _ _ c.if-self-ne0.true

pub returns-in-Some : goal.returns-in-Some
returns-in-Some c = finish-judged _ _ _ c.if-self-ne0.false (c.number.ensures.is ∙ ap number_or_none (sym c.in-Some.is) ∙ c.ending_bad.ensures)

pub returns-in-None : goal.returns-in-None
returns-in-None c = finish-judged _ _ _ c.if-self-ne0.false (c.if-self-ne0.false ∙ ap number_or_none (sym c.in-None.is) ∙ c.ending_bad.ensures)
