-- A PDU's numbers are that PDU's again. A number with a sign is one that 32 bits hold, as every one in a declared value is.
use Rattle.std.specs.Prelude.{ℕ, ◌+◌, ◌≤◌, ◌≡◌, refl, Bool, cond, List, ◌++◌, eqb, length, get_or, replicate}
use Rattle.std.proofs.Common.{ap, ◌∙◌, append-nil, arith, drop_of_length-le}
use Rattle.std.proofs.lemmas.List.Edits.{sets-eq}
use Rattle.pdu_parts.specs.Lists.{no_list}
use Rattle.pdu_parts.specs.declared.lists.Listed.{Listed}
use Rattle.pdu.specs.DownlinkTable.{kind_tag}
use Rattle.pdu_parts.specs.declared.report.Report.{Report}
use Rattle.pdu_parts.specs.declared.report.EmergencyReport.{EmergencyReport}
use Rattle.pdu_parts.specs.declared.acked.AckedReport.{AckedReport}
use Rattle.pdu_parts.specs.declared.acked.AckedEmergency.{AckedEmergency}
use Rattle.pdu_parts.specs.declared.acked.EventReport.{EventReport}
use Rattle.pdu.specs.declared.downlink.Air.{Air}
use Rattle.pdu.specs.declared.downlink.Air.TheVariants as air
use Rattle.pdu.specs.declared.downlink.AirPdu.{AirPdu}
use Rattle.host_numbers.specs.Numbers.{truth, items_of}
use Rattle.host_numbers.specs.ReportNumbers.{flat_report}
use Rattle.host_numbers.specs.VectorNumbers.{flat_ground_vector, flat_air_vector, flat_weather}
use Rattle.host_numbers.specs.laws.ReportBack.{Holds, ReportHolds, fix-back, kind-there, ack-there, event-there, elements-there, address-there, ground-there, report-back}
use Rattle.host_numbers.specs.DownlinkNumbers.{flat_acked, flat_urgent, flat_event, flat_air, acked_at, urgent_at, event_at, kind_at, list_at, air_at}

-- what stands before a report
head-there : (kind : ℕ) (ack : Bool) (event : ℕ) (r : Report)
    → (get_or (flat_report kind ack event r) 0 0 ≡ kind) × (truth (get_or (flat_report kind ack event r) 1 0) ≡ ack) × (get_or (flat_report kind ack event r) 2 0 ≡ event)
unfolding flat_report
head-there kind ack event r =
    let rest = flat_ground_vector r.over_ground ++ (flat_air_vector r.air ++ flat_weather r.weather) in
    (kind-there kind ack event r.elements r.fix r.address rest, ack-there kind ack event r.elements r.fix r.address rest, event-there kind ack event r.elements r.fix r.address rest)

acked-back : (kind : ℕ) (a : AckedReport) → ReportHolds a.report → acked_at (flat_acked kind a) ≡ a
unfolding acked_at
acked-back kind a f = rw ((head-there kind a.ack 0 a.report).1, report-back kind a.ack 0 a.report f)

-- the numbers with a sign of an emergency report
pub record EmergencyHolds (r : EmergencyReport) : Type 0 where
  pub level : Holds r.fix.position.level
  pub speed : Holds r.over_ground.speed
  pub rate : Holds r.over_ground.rate

urgent-back : (a : AckedEmergency) → EmergencyHolds a.report → urgent_at (flat_urgent a) ≡ a
unfolding urgent_at
urgent-back a f =
    let r = a.report in
    let rest = flat_ground_vector r.over_ground ++ replicate 11 0 in
    rw (ack-there 2 a.ack 0 r.elements r.fix r.address rest, elements-there 2 a.ack 0 r.elements r.fix r.address rest, fix-back 2 a.ack 0 r.elements r.fix r.address rest f.level, address-there 2 a.ack 0 r.elements r.fix r.address rest, ground-there 2 a.ack 0 r.elements r.fix r.address r.over_ground (replicate 11 0) f.speed f.rate)

event-back : (a : EventReport) → ReportHolds a.report → event_at (flat_event a) ≡ a
unfolding event_at
event-back a f = let h = head-there 3 a.ack a.event a.report in rw (h.1, h.2, report-back 3 a.ack a.event a.report f)

-- the numbers with a sign of a PDU
abbrev pub AirHolds : Air → Type 0
AirHolds air.CancelEmergency = Unit {0}
AirHolds (air.Demand a) = ReportHolds a.report
AirHolds (air.Emergency a) = EmergencyHolds a.report
AirHolds (air.Event a) = ReportHolds a.report
AirHolds (air.Negative a) = Unit {0}
AirHolds (air.Noncompliance n) = Unit {0}
AirHolds (air.Periodic a) = ReportHolds a.report
AirHolds (air.Positive n) = Unit {0}
AirHolds (air.Abort n) = Unit {0}

urgent-kind : (a : AckedEmergency) → get_or (flat_urgent a) 0 0 ≡ 2
urgent-kind a = kind-there 2 a.ack 0 a.report.elements a.report.fix a.report.address (flat_ground_vector a.report.over_ground ++ replicate 11 0)

pub air-back : (k : Air) (count : ℕ) → AirHolds k → kind_at (flat_air k count) ≡ k
unfolding kind_at flat_air
air-back air.CancelEmergency count f = refl
air-back (air.Demand a) count f = rw (head-there 1 a.ack 0 a.report).0 (ap air.Demand (acked-back 1 a f))
air-back (air.Emergency a) count f = rw (urgent-kind a) (ap air.Emergency (urgent-back a f))
air-back (air.Event a) count f = rw (head-there 3 a.ack a.event a.report).0 (ap air.Event (event-back a f))
air-back (air.Negative a) count f = refl
air-back (air.Noncompliance n) count f = refl
air-back (air.Periodic a) count f = rw (head-there 6 a.ack 0 a.report).0 (ap air.Periodic (acked-back 6 a f))
air-back (air.Positive n) count f = refl
air-back (air.Abort n) count f = refl

items_back : (s : List ℕ) → length s ≡ 128 → items_of s ≡ s
unfolding items_of
items_back s h =
    let m : 128 ≤ 0 + length s = omega (arith, h) in
    sets-eq s (replicate 128 0) 0 (omega (arith, h)) ∙ ap (λ (r : List ℕ). s ++ r) (drop_of_length-le (replicate 128 0) m) ∙ append-nil s

-- the list that a PDU of a kind has: its own, or none where the kind carries none
abbrev pub list_for : Air → Listed → Listed
list_for k x = cond (eqb (kind_tag k) 4) x (cond (eqb (kind_tag k) 5) x no_list)

list-there : (k : Air) (x : Listed) → length x.items ≡ 128 → list_at (flat_air k x.count) x.items ≡ list_for k x
unfolding list_at flat_air
list-there air.CancelEmergency x h = refl
list-there (air.Demand a) x h = rw (head-there 1 a.ack 0 a.report).0
list-there (air.Emergency a) x h = rw (urgent-kind a)
list-there (air.Event a) x h = rw (head-there 3 a.ack a.event a.report).0
list-there (air.Negative a) x h = rw (items_back x.items h)
list-there (air.Noncompliance n) x h = rw (items_back x.items h)
list-there (air.Periodic a) x h = rw (head-there 6 a.ack 0 a.report).0
list-there (air.Positive n) x h = refl
list-there (air.Abort n) x h = refl

-- every PDU that is read, from its numbers and its list's 128 octets
pub pdu-back : (a : AirPdu) → AirHolds a.kind → length a.list.items ≡ 128 → list_for a.kind a.list ≡ a.list
    → air_at (flat_air a.kind a.list.count) a.list.items ≡ a
unfolding air_at
pdu-back a f h e = rw (air-back a.kind a.list.count f, list-there a.kind a.list h, e)
