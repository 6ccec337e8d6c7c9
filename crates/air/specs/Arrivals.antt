-- What comes from the ground: a start indication, data, an end indication. LI's table of 000 and 002. The order of refusals is 29, then 2.
use Rattle.std.specs.Prelude.{Bool, true, false, List, [], ◌∷◌, ◌++◌, map, ℕ, eqb, length}
use Rattle.per.specs.Pdu as per
use Rattle.per.specs.Pdu.{read_pdu, got, refused}
use Rattle.pdu.specs.declared.downlink.Air.TheVariants.{Positive}
use Rattle.pdu.specs.DownlinkTable.{bare_air}
use Rattle.pdu.specs.declared.uplink.Ground.{Ground}
use Rattle.pdu.specs.UplinkTable.{ground_tag, ground_c}
use Rattle.link.specs.Tests.{pick}
use Rattle.link.specs.Names.{EC, DATA-REQUEST}
use Rattle.link.specs.Moves.{li_to, does_go}
use Rattle.link.specs.Watch.{li_is}
use Rattle.link.specs.declared.moves.Move.{Move}
use Rattle.sides.specs.Runs.{Part}
use Rattle.air_tables.specs.Names.{LI-IDLE, LI-START, LI-ACTIVE}
use Rattle.air_tables.specs.Moves.{li_answer, halts}
use Rattle.air_answer.specs.Record.{part, played, move_at, went_parts}
use Rattle.air_answer.specs.declared.record.AirLink.{AirLink}
use Rattle.air_answer.specs.Events.{uplink_event, may_come}
use Rattle.air_answer.specs.Sent.{sent, outgoing}
use Rattle.air_answer.specs.declared.sent.Sent.{Sent}
use Rattle.air_answer.specs.Answers.{END-RESPONSE, tells, allowed}
use Rattle.air_answer.specs.Aborts.{aborted}
use Rattle.air_answer.specs.declared.answer.Answer.{Answer}
use Rattle.refusals.specs.Refusals.{CANNOT-OCCUR}
use Rattle.pdu.specs.Reasons.{INVALID-PDU, SEQUENCE-ERROR}

-- the one send that data makes, a cancel's: positive ack of request type 3, "cancel-event-contract" (002:5252-5260), or 4, "cancel-periodic-contract" (002:5555-5562, 5572)
unfoldable pub ack_of : Move → Sent
ack_of m = pick m.send (outgoing (bare_air (Positive (pick (eqb m.who EC) 3 4)))).sent (sent [])

-- LI goes to k, and the module's row is played; what is not listed is abort 3 (002:6122 "sequence-error")
unfoldable pub passed : AirLink → ℕ → ℕ → Answer
passed l k e =
    pick (does_go (move_at l k e)) (tells l (played l (went_parts l k e DATA-REQUEST)) 0 (ack_of (move_at l k e))) (aborted l SEQUENCE-ERROR)

-- what does not read, or may not come there, is abort 2 (002:6106, 6110 "invalid-PDU")
unfoldable pub taken : AirLink → ℕ → per.Answer Ground → Answer
taken l k (got g) = pick (may_come k (uplink_event g)) (passed l k (uplink_event g)) (aborted l INVALID-PDU)
taken l k (refused n) = aborted l INVALID-PDU

-- in IDLE a start indication opens the link (000:621-623; 002:6039-6044)
unfoldable pub indicated : AirLink → List ℕ → Answer
indicated l s = allowed l (li_is l.at LI-IDLE) CANNOT-OCCUR (taken l LI-START (read_pdu ground_c s))

-- in ACTIVE data passes (000:623-625; 002:6046-6051)
unfoldable pub arrived : AirLink → List ℕ → Answer
arrived l s = allowed l (li_is l.at LI-ACTIVE) CANNOT-OCCUR (taken l LI-ACTIVE (read_pdu ground_c s))

-- 002:6070-6075 "a) pass it to the air HI module, b) invoke D-END response .., c) request the DC, EC, PC and EM modules to stop operation, and d) enter LI-A-IDLE state", in this order
unfoldable pub end_parts : AirLink → Bool → List Part
end_parts l told = part l (li_answer told) END-RESPONSE ∷ (map (λ (m : Move). part l m 0) (halts l.at) ++ (part l (li_to LI-IDLE) 0 ∷ []))

unfoldable pub ended : AirLink → Bool → Sent → Answer
ended l told octets = tells l (played l (end_parts l told)) 0 octets

-- with cancel-all the user is told, and the positive ack (cancel-all) goes with the response (002:6072-6073); with any other data abort 2 (002:6114)
unfoldable pub all_cancelled : AirLink → per.Answer Ground → Answer
all_cancelled l (got g) = pick (eqb (ground_tag g) 0) (ended l true (outgoing (bare_air (Positive 6))).sent) (aborted l INVALID-PDU)
all_cancelled l (refused n) = aborted l INVALID-PDU

-- in ACTIVE an end indication is answered (000:625-629); without data the response has none (002:6077-6080)
unfoldable pub end_indicated : AirLink → List ℕ → Answer
end_indicated l s =
    allowed l (li_is l.at LI-ACTIVE) CANNOT-OCCUR (pick (eqb (length s) 0) (ended l false (sent [])) (all_cancelled l (read_pdu ground_c s)))
