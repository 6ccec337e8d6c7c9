-- Aborts from below, in START and ACTIVE: stops and indication only (000:629-633; 002:6082-6092). The order of refusals is 29, then 2.
use Rattle.std.specs.Prelude.{not, List, ℕ}
use Rattle.per.specs.Pdu as per
use Rattle.per.specs.Pdu.{read_pdu, got, refused}
use Rattle.pdu.specs.declared.uplink.Ground.{Ground}
use Rattle.pdu.specs.UplinkTable.{ground_c}
use Rattle.link.specs.Names.{ABORT-IND, PEER-ABORT-IND}
use Rattle.link.specs.Watch.{li_is}
use Rattle.air_tables.specs.Names.{LI-IDLE}
use Rattle.air_answer.specs.declared.record.AirLink.{AirLink}
use Rattle.air_answer.specs.Events.{reason_in}
use Rattle.air_answer.specs.Aborts.{closed_when}
use Rattle.air_answer.specs.declared.answer.Answer.{Answer}
use Rattle.refusals.specs.Refusals.{CANNOT-OCCUR}
use Rattle.pdu.specs.Reasons.{PROVIDER-FAILURE, UNDEFINED-ERROR}

-- the provider below fails: reason 0 (002:5823-5831)
unfoldable pub failed : AirLink → Answer
failed l = closed_when l (not (li_is l.at LI-IDLE)) CANNOT-OCCUR ABORT-IND PROVIDER-FAILURE

-- the PDU's reason if a ground provider abort reads well (002:5838-5846), else 6
unfoldable pub reason_of : per.Answer Ground → ℕ
reason_of (got g) = reason_in g
reason_of (refused n) = UNDEFINED-ERROR

unfoldable pub ground_aborted : AirLink → List ℕ → Answer
ground_aborted l s = closed_when l (not (li_is l.at LI-IDLE)) CANNOT-OCCUR ABORT-IND (reason_of (read_pdu ground_c s))

-- the ground user's abort is shown as such (002:5833-5836)
unfoldable pub peer_aborted : AirLink → Answer
peer_aborted l = closed_when l (not (li_is l.at LI-IDLE)) CANNOT-OCCUR PEER-ABORT-IND 0
