-- An aircraft PDU as 40 numbers, its list's octets beside them: 0 its kind, the index of 01's table; 1 whether a positive ack goes with a report, the request
-- type, the index of a noncompliance or the reason of an abort; 2 the event type or the reason of a negative ack; 3 how many entries the list has;
-- 4 to 39 a report, as `ReportNumbers` has it. What a kind has not is 0.
use Rattle.std.specs.Prelude.{cond, List, [], ◌∷◌, ◌++◌, ℕ, eqb, get_or, replicate}
use Rattle.pdu_parts.specs.Lists.{no_list}
use Rattle.pdu_parts.specs.declared.lists.Listed.{Listed}
use Rattle.pdu_parts.specs.declared.acks.NegativeAck.{NegativeAck}
use Rattle.pdu_parts.specs.declared.acked.AckedReport.{AckedReport}
use Rattle.pdu_parts.specs.declared.acked.AckedEmergency.{AckedEmergency}
use Rattle.pdu_parts.specs.declared.acked.EventReport.{EventReport}
use Rattle.pdu.specs.declared.downlink.Air.{Air}
use Rattle.pdu.specs.declared.downlink.Air.TheVariants.{CancelEmergency, Demand, Emergency, Event, Negative, Noncompliance, Periodic, Positive, Abort}
use Rattle.pdu.specs.declared.downlink.AirPdu.{AirPdu}
use Rattle.host_numbers.specs.Numbers.{truth, number_by, items_of}
use Rattle.host_numbers.specs.ReportNumbers.{fix_numbers, flat_report, fix_at, report_at}
use Rattle.host_numbers.specs.VectorNumbers.{flat_ground_vector, ground_vector_at}
use Rattle.host_numbers.specs.Places.{A-KIND, A-WHAT, A-DETAIL, A-COUNT, A-ELEMENTS, A-ADDRESS}

-- a PDU without a report: its kind, the numbers at 1 and 2, and how many entries its list has
abbrev pub few : ℕ → ℕ → ℕ → ℕ → List ℕ
few kind a b count = kind ∷ a ∷ b ∷ count ∷ replicate 36 0

-- demand and periodic reports: "a presence bit for the positive ack (NULL), then the report"
abbrev pub flat_acked : ℕ → AckedReport → List ℕ
flat_acked kind a = flat_report kind a.ack 0 a.report

-- emergencies, which have the ground vector alone
abbrev pub flat_urgent : AckedEmergency → List ℕ
flat_urgent a = fix_numbers 2 a.ack 0 a.report.elements a.report.fix a.report.address ++ (flat_ground_vector a.report.over_ground ++ replicate 11 0)

-- "Index 3: that presence bit, event type* 0..11, report"
abbrev pub flat_event : EventReport → List ℕ
flat_event a = flat_report 3 a.ack a.event a.report

-- by the kinds of 01's table; `count` is that of the list
unfoldable pub flat_air : Air → ℕ → List ℕ
flat_air CancelEmergency count = few 0 0 0 0
flat_air (Demand a) count = flat_acked 1 a
flat_air (Emergency a) count = flat_urgent a
flat_air (Event a) count = flat_event a
flat_air (Negative a) count = few 4 a.request a.reason count
flat_air (Noncompliance n) count = few 5 n 0 count
flat_air (Periodic a) count = flat_acked 6 a
flat_air (Positive n) count = few 7 n 0 0
flat_air (Abort n) count = few 8 n 0 0

-- and back. Numbers that are not there are 0. Before the report stands whether a positive ack goes with it
unfoldable pub acked_at : List ℕ → AckedReport
acked_at f = record { ack = truth (get_or f A-WHAT 0); report = report_at f }

-- the same of an emergency
unfoldable pub urgent_at : List ℕ → AckedEmergency
urgent_at f =
    record {
      ack = truth (get_or f A-WHAT 0);
      report = record { elements = number_by f A-WHAT A-ELEMENTS; fix = fix_at f; address = get_or f A-ADDRESS 0; over_ground = ground_vector_at f };
    }

-- and of an event report, with the event type
unfoldable pub event_at : List ℕ → EventReport
event_at f = record { ack = truth (get_or f A-WHAT 0); event = get_or f A-DETAIL 0; report = report_at f }

-- request type and reason
abbrev pub negative_at : List ℕ → NegativeAck
negative_at f = record { request = get_or f A-WHAT 0; reason = get_or f A-DETAIL 0 }

-- by the index of 01's table. A kind over 8 gives an abort of reason 8, which the writer refuses with 5
abbrev pub air_kinds : List ℕ → List Air
air_kinds f =
    CancelEmergency
    ∷ Demand (acked_at f)
    ∷ Emergency (urgent_at f)
    ∷ Event (event_at f)
    ∷ Negative (negative_at f)
    ∷ Noncompliance (get_or f A-WHAT 0)
    ∷ Periodic (acked_at f)
    ∷ Positive (get_or f A-WHAT 0)
    ∷ Abort (get_or f A-WHAT 0)
    ∷ []

unfoldable pub kind_at : List ℕ → Air
kind_at f = get_or (air_kinds f) (get_or f A-KIND 0) (Abort 8)

-- the list, for the two kinds that carry one
abbrev pub listed_at : List ℕ → List ℕ → Listed
listed_at f l = record { count = get_or f A-COUNT 0; items = items_of l }

unfoldable pub list_at : List ℕ → List ℕ → Listed
list_at f l = cond (eqb (get_or f A-KIND 0) 4) (listed_at f l) (cond (eqb (get_or f A-KIND 0) 5) (listed_at f l) no_list)

-- the whole PDU
unfoldable pub air_at : List ℕ → List ℕ → AirPdu
air_at f l = record { kind = kind_at f; list = list_at f l }
