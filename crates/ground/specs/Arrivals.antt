-- Data from the aircraft, and the answer to our start: LI's table of 01. The order of refusals is 29, then 2.
use Rattle.std.specs.Prelude.{List, [], ℕ}
use Rattle.per.specs.Pdu as per
use Rattle.per.specs.Pdu.{read_pdu, got, refused}
use Rattle.pdu.specs.declared.uplink.Ground.TheVariants.{CancelEmergencyAck}
use Rattle.pdu.specs.declared.downlink.AirPdu.{AirPdu}
use Rattle.pdu.specs.DownlinkTable.{air_c}
use Rattle.link.specs.Tests.{pick}
use Rattle.link.specs.Step.{performed, begun, added}
use Rattle.link.specs.declared.moves.Move.{Move}
use Rattle.link.specs.declared.executor.Step.{Step}
use Rattle.link.specs.Watch.{idle, li_is}
use Rattle.ground_tables.specs.Names.{LI-START, LI-ACTIVE, LI-END}
use Rattle.ground_tables.specs.Moves.{li_end}
use Rattle.ground_answer.specs.Record.{loads, move_at, agreed_at, went}
use Rattle.ground_answer.specs.declared.record.Link.{Link}
use Rattle.ground_answer.specs.Events.{air_event}
use Rattle.ground_answer.specs.Sent.{sent, outgoing}
use Rattle.ground_answer.specs.declared.sent.Sent.{Sent}
use Rattle.ground_answer.specs.Answers.{END-REQUEST, LATE, refusal, tells, quietly, checked, allowed}
use Rattle.ground_answer.specs.Aborts.{aborted}
use Rattle.ground_answer.specs.declared.answer.Answer.{Answer}
use Rattle.refusals.specs.Refusals.{CANNOT-OCCUR}
use Rattle.pdu.specs.Reasons.{INVALID-PDU, SEQUENCE-ERROR}
use Rattle.link.specs.Names.{DATA-REQUEST}
use Rattle.link.specs.Moves.{does_go}

-- "cancel-emergency, stop the timer, ind, send ack": the one send that data makes. It goes before an end request
unfoldable pub ack_of : Move → Sent
ack_of m = pick m.send (outgoing CancelEmergencyAck).sent (sent [])

-- "After confirm or data without an abort, if all four modules are IDLE, one end request is added at the end, END."
unfoldable pub ended : Link → Step → Sent → Answer
ended l s octets = pick (idle s.at) (tells l (performed s li_end (loads l) END-REQUEST) 0 octets) (tells l s 0 octets)

-- "Downlink data not listed for a state: abort 3." Data asks for no interval
unfoldable pub passed : Link → ℕ → Answer
passed l e =
    pick (does_go (move_at l LI-ACTIVE e))
    (ended (agreed_at l LI-ACTIVE e 0) (went l LI-ACTIVE e 0 DATA-REQUEST) (ack_of (move_at l LI-ACTIVE e)))
    (aborted l SEQUENCE-ERROR)

-- "A value is taken only when the reading is good; otherwise a start confirm in START or data in ACTIVE ends in abort 2."
unfoldable pub taken : Link → per.Answer AirPdu → Answer
taken l (got a) = passed l (air_event a.kind)
taken l (refused n) = aborted l INVALID-PDU

-- "START: accepted start confirm passes its data, then ACTIVE"; "Link primitives not listed: refusal 2."
unfoldable pub confirmed : Link → List ℕ → Answer
confirmed l s = allowed l (li_is l.at LI-START) CANNOT-OCCUR (taken l (read_pdu air_c s))

-- "END: data is set aside unread as "late""
unfoldable pub late_data : Link → Answer
late_data l = quietly l (added (begun l.at l.left) LATE)

-- "ACTIVE: data passes."
unfoldable pub arrived : Link → List ℕ → Answer
arrived l s = checked l (pick (li_is l.at LI-ACTIVE) (taken l (read_pdu air_c s)) (pick (li_is l.at LI-END) (late_data l) (refusal l CANNOT-OCCUR)))
