-- The abort rule, and the other calls that stop everything.
use Rattle.std.specs.Prelude.{ℕ, Bool, []}
use Rattle.link.specs.Step.{stopped_then, aborted_all}
use Rattle.pdu.specs.declared.uplink.Ground as ground
use Rattle.ground_answer.specs.Sent.{sent, outgoing}
use Rattle.ground_answer.specs.Answers.{tells, allowed}
use Rattle.ground_answer.specs.Record.{cleared}
use Rattle.ground_answer.specs.declared.record.Link.{Link}
use Rattle.ground_answer.specs.declared.answer.Answer.{Answer}

-- "Stop entries for all running timers, an expired one too, in watch order, abort request with ground provider abort n, abort indication n, all IDLE, LI too"
unfoldable pub aborted : Link → ℕ → Answer
aborted l n = tells (cleared l) (aborted_all l.left) n (outgoing (ground.TheVariants.Abort n)).sent

-- "every abort below ends so as well": the stops, the one entry and the reason it shows, all IDLE, LI too
unfoldable pub closed : Link → ℕ → ℕ → Answer
closed l entry reason = tells (cleared l) (stopped_then entry l.left) reason (sent [])

unfoldable pub closed_when : Link → Bool → ℕ → ℕ → ℕ → Answer
closed_when l may number entry reason = allowed l may number (closed l entry reason)
