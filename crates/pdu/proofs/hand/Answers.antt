use mathlib.Core.Path.{sym, ap, ◌∙◌}
use Rattle.refusals.specs.Refusals.{number_or_none}
use Rattle.refusals.proofs.Numbers.{found-named}
use Rattle.pdu.proofs.Sending.{hands-first, hands-short}
use Rattle.pdu.proofs.hand.Goals as goal

pub returns-in-Some : goal.returns-in-Some
returns-in-Some c = hands-first c.in-Some.refusal (c.of.ensures.only c.in-Some.refusal c.in-Some.is)

pub returns-in-Ok : goal.returns-in-Ok
returns-in-Ok c = rw c.in-Ok.is at c.deliver.ensures

pub returns-in-Err : goal.returns-in-Err
returns-in-Err c = hands-short (sym (found-named _ c.requires c.of.ensures) ∙ ap number_or_none c.in_default.is) (rw c.in-Err.is at c.deliver.ensures)
