-- The abort rule, and the other calls that stop everything.
use Rattle.std.specs.Prelude.{Bool, [], ℕ}
use Rattle.link.specs.Step.{stopped_then, aborted_all}
use Rattle.pdu.specs.declared.downlink.Air as air
use Rattle.pdu.specs.DownlinkTable.{bare_air}
use Rattle.air_answer.specs.Sent.{sent, outgoing}
use Rattle.air_answer.specs.Answers.{tells, allowed}
use Rattle.air_answer.specs.declared.record.AirLink.{AirLink}
use Rattle.air_answer.specs.declared.answer.Answer.{Answer}

-- the abort rule of 01 with the aircraft's provider abort n; 002:5799-5805 has the same order
unfoldable pub aborted : AirLink → ℕ → Answer
aborted l n = tells l (aborted_all l.left) n (outgoing (bare_air (air.TheVariants.Abort n))).sent

-- "every abort below ends so as well": the stops, the one entry and the reason it shows, all IDLE, LI too
unfoldable pub closed : AirLink → ℕ → ℕ → Answer
closed l entry reason = tells l (stopped_then entry l.left) reason (sent [])

unfoldable pub closed_when : AirLink → Bool → ℕ → ℕ → ℕ → Answer
closed_when l may number entry reason = allowed l may number (closed l entry reason)
