-- The event that each PDU is, for the ground tables of 01.
use Rattle.std.specs.Prelude.{ℕ, ◌*◌, ◌==◌}
use Rattle.link.specs.Tests.{pick}
use Rattle.link.specs.Names.{DC, EC, PC, EM, of, no_request, no_data}
use Rattle.ground_tables.specs.Names.{request, cancel, modify, dc_report_ack, dc_report, dc_negative, dc_noncompliance, report_ack, report, positive, noncompliance, cancelled, negative, em_report, em_report_ack, em_positive, em_cancel}
use Rattle.pdu_parts.specs.declared.interval.Interval.{Interval}
use Rattle.pdu_parts.specs.declared.interval.Interval.TheVariants.{Seconds, Minutes}
use Rattle.pdu.specs.declared.uplink.Ground.{Ground}
use Rattle.pdu.specs.declared.uplink.Ground.TheVariants.{CancelAll, CancelContract, CancelEmergencyAck, DemandContract, EventContract, ModifyEmergency, PeriodicContract}
use Rattle.pdu.specs.declared.uplink.Ground as ground
use Rattle.pdu.specs.declared.downlink.Air.{Air}
use Rattle.pdu.specs.DownlinkTable.{kind_tag}
use Rattle.pdu.specs.Contents.{number_of}
use Rattle.pdu.specs.declared.downlink.Air.TheVariants.{CancelEmergency, Demand, Emergency, Event, Negative, Noncompliance, Periodic, Positive, Abort}
use Rattle.pdu.specs.Reasons.{UNDEFINED-ERROR}

-- LI's own request, of no module
abbrev pub cancel_all : ℕ
cancel_all = of 4 1

-- request types: 0 event, 1 periodic, 2 demand, 3 cancel event, 4 cancel periodic, 5 modify emergency, 6 cancel all, 7 end forward.
-- "negative ack (demand)", "negative ack (event)" and for PC the same; no table lists another, that of a modify neither
unfoldable pub negative_event : ℕ → ℕ
negative_event n = pick (n == 0) (of EC negative) (pick (n == 1) (of PC negative) (pick (n == 2) (of DC dc_negative) no_data))

-- "positive ack (event)", "positive ack (cancel event)", for PC the same, and "positive ack (modify, confirm)"; that of a demand, 6 and 7 are not listed
unfoldable pub positive_event : ℕ → ℕ
positive_event n =
    pick (n == 0) (of EC positive)
    (pick (n == 1) (of PC positive)
    (pick (n == 3) (of EC cancelled) (pick (n == 4) (of PC cancelled) (pick (n == 5) (of EM em_positive) no_data))))

-- "Noncompliance index 0..2: lists of report type* 0..6, event type* 0..10, report type and period* 0..7": of a demand, an event, a periodic contract
unfoldable pub unmet_event : ℕ → ℕ
unmet_event n = pick (n == 0) (of DC dc_noncompliance) (pick (n == 1) (of EC noncompliance) (pick (n == 2) (of PC noncompliance) no_data))

-- downlink data
unfoldable pub air_event : Air → ℕ
air_event CancelEmergency = of EM em_cancel
air_event (Demand a) = pick a.ack (of DC dc_report_ack) (of DC dc_report)
air_event (Emergency a) = pick a.ack (of EM em_report_ack) (of EM em_report)
air_event (Event a) = pick a.ack (of EC report_ack) (of EC report)
air_event (Negative a) = negative_event a.request
air_event (Noncompliance n) = unmet_event n
air_event (Periodic a) = pick a.ack (of PC report_ack) (of PC report)
air_event (Positive n) = positive_event n
air_event (Abort n) = no_data

-- "cancel-contract*, 0 event or 1 periodic"
unfoldable pub cancel_event : ℕ → ℕ
cancel_event n = pick (n == 0) (of EC cancel) (pick (n == 1) (of PC cancel) no_request)

-- a user's request; cancel-all is LI's own, an ack and a provider abort are no request
unfoldable pub request_event : Ground → ℕ
request_event CancelAll = cancel_all
request_event (CancelContract n) = cancel_event n
request_event CancelEmergencyAck = no_request
request_event (DemandContract v) = of DC request
request_event (EventContract v) = of EC request
request_event (ModifyEmergency i) = of EM modify
request_event (PeriodicContract a) = of PC request
request_event (ground.TheVariants.Abort n) = no_request

-- an interval in seconds
abbrev pub seconds_of : Interval → ℕ
seconds_of (Seconds n) = n
seconds_of (Minutes n) = n * 60

-- the interval that a periodic request asks for; the 5 minutes that it leaves out are in its value. No other request asks for one
unfoldable pub asks_for : Ground → ℕ
asks_for CancelAll = 0
asks_for (CancelContract n) = 0
asks_for CancelEmergencyAck = 0
asks_for (DemandContract v) = 0
asks_for (EventContract v) = 0
asks_for (ModifyEmergency i) = 0
asks_for (PeriodicContract a) = seconds_of a.interval
asks_for (ground.TheVariants.Abort n) = 0

-- "the PDU's reason if an aircraft provider abort reads well, else 6"
unfoldable pub reason_in : Air → ℕ
reason_in a = pick (kind_tag a == 8) (number_of a) UNDEFINED-ERROR
