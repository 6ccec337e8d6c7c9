-- What each kind of aircraft PDU holds; for every other kind, the empty value of its format.
use Rattle.std.specs.Prelude.{ℕ}
use Rattle.pdu_parts.specs.declared.acked.AckedReport.{AckedReport}
use Rattle.pdu_parts.specs.declared.acked.AckedEmergency.{AckedEmergency}
use Rattle.pdu_parts.specs.declared.acked.EventReport.{EventReport}
use Rattle.pdu_parts.specs.declared.acks.NegativeAck.{NegativeAck}
use Rattle.pdu.specs.declared.downlink.Air.{Air}
use Rattle.pdu.specs.declared.downlink.Air.TheVariants.{CancelEmergency, Demand, Emergency, Event, Negative, Noncompliance, Periodic, Positive, Abort}
use Rattle.pdu_parts.specs.AirParts.{acked_c, acked_emergency_c, event_report_c}

abbrev pub report_of : Air → AckedReport
report_of CancelEmergency = acked_c.none
report_of (Demand a) = a
report_of (Emergency a) = acked_c.none
report_of (Event a) = acked_c.none
report_of (Negative a) = acked_c.none
report_of (Noncompliance n) = acked_c.none
report_of (Periodic a) = a
report_of (Positive n) = acked_c.none
report_of (Abort n) = acked_c.none

abbrev pub emergency_of : Air → AckedEmergency
emergency_of CancelEmergency = acked_emergency_c.none
emergency_of (Demand a) = acked_emergency_c.none
emergency_of (Emergency a) = a
emergency_of (Event a) = acked_emergency_c.none
emergency_of (Negative a) = acked_emergency_c.none
emergency_of (Noncompliance n) = acked_emergency_c.none
emergency_of (Periodic a) = acked_emergency_c.none
emergency_of (Positive n) = acked_emergency_c.none
emergency_of (Abort n) = acked_emergency_c.none

abbrev pub event_of : Air → EventReport
event_of CancelEmergency = event_report_c.none
event_of (Demand a) = event_report_c.none
event_of (Emergency a) = event_report_c.none
event_of (Event a) = a
event_of (Negative a) = event_report_c.none
event_of (Noncompliance n) = event_report_c.none
event_of (Periodic a) = event_report_c.none
event_of (Positive n) = event_report_c.none
event_of (Abort n) = event_report_c.none

abbrev pub negative_of : Air → NegativeAck
negative_of CancelEmergency = record { request = 0; reason = 0 }
negative_of (Demand a) = record { request = 0; reason = 0 }
negative_of (Emergency a) = record { request = 0; reason = 0 }
negative_of (Event a) = record { request = 0; reason = 0 }
negative_of (Negative a) = a
negative_of (Noncompliance n) = record { request = 0; reason = 0 }
negative_of (Periodic a) = record { request = 0; reason = 0 }
negative_of (Positive n) = record { request = 0; reason = 0 }
negative_of (Abort n) = record { request = 0; reason = 0 }

abbrev pub number_of : Air → ℕ
number_of CancelEmergency = 0
number_of (Demand a) = 0
number_of (Emergency a) = 0
number_of (Event a) = 0
number_of (Negative a) = 0
number_of (Noncompliance n) = n
number_of (Periodic a) = 0
number_of (Positive n) = n
number_of (Abort n) = n
