-- The event that each PDU is, for the air tables; what may come with a start indication and in data; what may go as the start response.
use Rattle.std.specs.Prelude.{Bool, not, ℕ, eqb}
use Rattle.link.specs.Tests.{either, pick}
use Rattle.link.specs.Names.{DC, EC, PC, EM, of, no_request, no_data}
use Rattle.air_tables.specs.Names.{LI-START, dc_negative, dc_noncompliance, dc_report_ack, dc_report, dc_contract, agree, negative, report_ack, report, contract, cancel, em_report, em_report_ack, em_cancel, em_refuse, em_ack, em_modify}
use Rattle.pdu.specs.declared.uplink.Ground.{Ground}
use Rattle.pdu.specs.declared.uplink.Ground.TheVariants.{CancelAll, CancelContract, CancelEmergencyAck, DemandContract, EventContract, ModifyEmergency, PeriodicContract}
use Rattle.pdu.specs.declared.uplink.Ground as ground
use Rattle.pdu.specs.UplinkTable.{ground_tag, ground_number}
use Rattle.pdu.specs.declared.downlink.Air.{Air}
use Rattle.pdu.specs.declared.downlink.Air.TheVariants.{CancelEmergency, Demand, Emergency, Event, Negative, Noncompliance, Periodic, Positive, Abort}
use Rattle.pdu.specs.DownlinkTable.{kind_tag}
use Rattle.pdu.specs.Reasons.{UNDEFINED-ERROR}

-- request types: 0 event, 1 periodic, 2 demand, 3 cancel event, 4 cancel periodic, 5 modify emergency, 6 cancel all, 7 end forward.
-- The negative ack of a contract, and of a modify (002:5742); no user sends another
unfoldable pub negative_event : ℕ → ℕ
negative_event n =
    pick (eqb n 0) (of EC negative) (pick (eqb n 1) (of PC negative) (pick (eqb n 2) (of DC dc_negative) (pick (eqb n 5) (of EM em_refuse) no_request)))

-- the positive ack of an event or periodic contract. Those of cancels the box sends itself, that of a demand is version 2's (002:4919), that of a modify no air system sends
unfoldable pub positive_event : ℕ → ℕ
positive_event n = pick (eqb n 0) (of EC agree) (pick (eqb n 1) (of PC agree) no_request)

-- the noncompliance notification of a demand, an event, a periodic contract
unfoldable pub unmet_event : ℕ → ℕ
unmet_event n = pick (eqb n 0) (of DC dc_noncompliance) (pick (eqb n 1) (of EC agree) (pick (eqb n 2) (of PC agree) no_request))

-- what the user asks or answers (002, Table 2.2.1.5-4); a provider abort is no request
unfoldable pub request_event : Air → ℕ
request_event CancelEmergency = of EM em_cancel
request_event (Demand a) = pick a.ack (of DC dc_report_ack) (of DC dc_report)
request_event (Emergency a) = pick a.ack (of EM em_report_ack) (of EM em_report)
request_event (Event a) = pick a.ack (of EC report_ack) (of EC report)
request_event (Negative a) = negative_event a.request
request_event (Noncompliance n) = unmet_event n
request_event (Periodic a) = pick a.ack (of PC report_ack) (of PC report)
request_event (Positive n) = positive_event n
request_event (Abort n) = no_request

-- what may go as the start response: LI's row of START has every PDU but the cancel of an emergency and the emergency report (000:611-615; 002:6349-6350)
unfoldable pub opens : Air → Bool
opens a = not (either (eqb (kind_tag a) 0) (eqb (kind_tag a) 2))

-- "cancel-contract*, 0 event or 1 periodic"
unfoldable pub cancel_event : ℕ → ℕ
cancel_event n = pick (eqb n 0) (of EC cancel) (pick (eqb n 1) (of PC cancel) no_data)

-- data from the ground (002, Table 2.2.1.5-64); cancel-all comes with an end indication, a provider abort with an abort
unfoldable pub uplink_event : Ground → ℕ
uplink_event CancelAll = no_data
uplink_event (CancelContract n) = cancel_event n
uplink_event CancelEmergencyAck = of EM em_ack
uplink_event (DemandContract v) = of DC dc_contract
uplink_event (EventContract v) = of EC contract
uplink_event (ModifyEmergency i) = of EM em_modify
uplink_event (PeriodicContract a) = of PC contract
uplink_event (ground.TheVariants.Abort n) = no_data

-- with a start indication a contract may come (002:6106), in data whatever a module may have (002:6110); li is where LI then goes
unfoldable pub may_come : ℕ → ℕ → Bool
may_come li e =
    pick (eqb li LI-START) (either (eqb e (of DC dc_contract)) (either (eqb e (of EC contract)) (eqb e (of PC contract)))) (not (eqb e no_data))

-- the reason of a ground provider abort; 6 in any other PDU
unfoldable pub reason_in : Ground → ℕ
reason_in g = pick (eqb (ground_tag g) 7) (ground_number g) UNDEFINED-ERROR
