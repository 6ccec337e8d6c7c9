-- The clock of 01. The order of refusals is 29, then 4.
use Rattle.std.specs.Prelude.{ℕ, nat_le}
use Rattle.link.specs.Tests.{pick, below}
use Rattle.link.specs.Names.{timers}
use Rattle.link.specs.Clock.{ELAPSE-MOST, not_due, later}
use Rattle.link.specs.Step.{begun}
use Rattle.ground_answer.specs.Answers.{quietly, allowed}
use Rattle.ground_answer.specs.Aborts.{aborted}
use Rattle.ground_answer.specs.declared.record.Link.{Link}
use Rattle.ground_answer.specs.declared.answer.Answer.{Answer}
use Rattle.refusals.specs.Refusals.{ELAPSE-OVER}
use Rattle.pdu.specs.Reasons.{TIMER-EXPIRY}

-- "else each running one loses n"
unfoldable pub waited : Link → ℕ → Answer
waited l n = quietly l (begun l.at (later n l.left))

-- "An elapse of n seconds, 0 to 86,400: if a running timer has n or fewer left (n at least 1), abort 4; else each running one loses n."
unfoldable pub elapsed : Link → ℕ → Answer
elapsed l n = allowed l (nat_le n ELAPSE-MOST) ELAPSE-OVER (pick (below timers (not_due n l.left)) (waited l n) (aborted l TIMER-EXPIRY))
