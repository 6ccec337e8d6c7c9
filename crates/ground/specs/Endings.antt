-- What else comes from below and ends something: LI's table and the abort rule of 01. The order of refusals is 29, then 2.
use Rattle.std.specs.Prelude.{not, List, ℕ}
use Rattle.per.specs.Pdu as per
use Rattle.per.specs.Pdu.{read_pdu, got, refused}
use Rattle.pdu.specs.declared.downlink.AirPdu.{AirPdu}
use Rattle.pdu.specs.DownlinkTable.{air_c}
use Rattle.link.specs.Step.{performed, begun}
use Rattle.link.specs.Watch.{li_is}
use Rattle.link.specs.Names.{ABORT-IND, PEER-ABORT-IND}
use Rattle.ground_tables.specs.Names.{LI-IDLE, LI-START, LI-END}
use Rattle.ground_tables.specs.Moves.{li_over}
use Rattle.ground_answer.specs.Record.{loads}
use Rattle.ground_answer.specs.declared.record.Link.{Link}
use Rattle.ground_answer.specs.Events.{reason_in}
use Rattle.ground_answer.specs.Answers.{quietly, allowed}
use Rattle.ground_answer.specs.Aborts.{closed_when}
use Rattle.ground_answer.specs.declared.answer.Answer.{Answer}
use Rattle.refusals.specs.Refusals.{CANNOT-OCCUR}
use Rattle.pdu.specs.Reasons.{NO-CONTACT, PROVIDER-FAILURE, UNDEFINED-ERROR}

-- "rejected, abort 5 without an abort request"
unfoldable pub rejected : Link → Answer
rejected l = closed_when l (li_is l.at LI-START) CANNOT-OCCUR ABORT-IND NO-CONTACT

-- "From below, in the same states: stops and indication only; reason 0 for a provider failure, the PDU's reason if an aircraft provider abort reads well,
-- else 6; a peer user's abort is shown as such."
unfoldable pub failed : Link → Answer
failed l = closed_when l (not (li_is l.at LI-IDLE)) CANNOT-OCCUR ABORT-IND PROVIDER-FAILURE

unfoldable pub reason_of : per.Answer AirPdu → ℕ
reason_of (got a) = reason_in a.kind
reason_of (refused n) = UNDEFINED-ERROR

unfoldable pub air_aborted : Link → List ℕ → Answer
air_aborted l s = closed_when l (not (li_is l.at LI-IDLE)) CANNOT-OCCUR ABORT-IND (reason_of (read_pdu air_c s))

unfoldable pub peer_aborted : Link → Answer
peer_aborted l = closed_when l (not (li_is l.at LI-IDLE)) CANNOT-OCCUR PEER-ABORT-IND 0

-- "END: data is set aside unread as "late" (000 passes it on); end confirm, IDLE."
unfoldable pub over : Link → Answer
over l = quietly l (performed (begun l.at l.left) li_over (loads l) 0)

unfoldable pub end_confirmed : Link → Answer
end_confirmed l = allowed l (li_is l.at LI-END) CANNOT-OCCUR (over l)
