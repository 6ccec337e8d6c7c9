-- The clock of the air link: 01's, over EM3 alone. The order of refusals is 29, then 4.
use Rattle.std.specs.Prelude.{[], ℕ, leb}
use Rattle.link.specs.Tests.{pick, below}
use Rattle.link.specs.Names.{timers}
use Rattle.link.specs.Clock.{ELAPSE-MOST, not_due, later}
use Rattle.link.specs.Step.{begun}
use Rattle.air_answer.specs.Sent.{sent}
use Rattle.air_answer.specs.Answers.{tells, allowed}
use Rattle.air_answer.specs.Aborts.{aborted}
use Rattle.air_answer.specs.declared.record.AirLink.{AirLink}
use Rattle.air_answer.specs.declared.answer.Answer.{Answer}
use Rattle.refusals.specs.Refusals.{ELAPSE-OVER}
use Rattle.pdu.specs.Reasons.{TIMER-EXPIRY}

-- "else each running one loses n"
unfoldable pub waited : AirLink → ℕ → Answer
waited l n = tells l (begun l.at (later n l.left)) 0 (sent [])

-- "An elapse of n seconds, 0 to 86,400: if a running timer has n or fewer left (n at least 1), abort 4; else each running one loses n."
unfoldable pub elapsed : AirLink → ℕ → Answer
elapsed l n = allowed l (leb n ELAPSE-MOST) ELAPSE-OVER (pick (below timers (not_due n l.left)) (waited l n) (aborted l TIMER-EXPIRY))
