-- What is promised of PDUs as numbers. Assumes nothing.
use Prim.Native.Nat.{ℕ, ◌<◌}
use mathlib.Core.Path.{◌≡◌, refl, sym, ap, ◌∙◌}
use mathlib.Core.List.{List}
use mathlib.Core.Bool.{Bool, true, false}
use native.Mathlib.Omega.{arith}
use lib.Dec.{eqb}
use lib.ListN.{length, get_or, length-replicate}
use Rattle.per.specs.Codec.{first}
use Rattle.per.specs.Formats.{field, dep, via, absent, when, ext, num, index, alt_codec, choice}
use Rattle.per.specs.laws.Codec.{first-1}
use Rattle.per.specs.Pdu.{encode, got, read_pdu}
use Rattle.per.specs.Writing.{Delivered}
use Rattle.pdu_parts.specs.AirParts.{acked_c, acked_emergency_c, event_report_c, negative_c, noncompliance_c, entry_top}
use Rattle.pdu_parts.specs.Lists.{entries_c, names_c, no_list}
use Rattle.pdu_parts.proofs.ListNorms.{listed-full}
use Rattle.pdu_parts.proofs.ReportSigns.{ReportSmall, report-small, EmergencySmall, emergency-small}
use Rattle.pdu_parts.specs.Reports.{report_c, emergency_report_c}
use Rattle.pdu_parts.specs.declared.report.Report.{Report}
use Rattle.pdu_parts.specs.declared.report.EmergencyReport.{EmergencyReport}
use Rattle.pdu_parts.specs.declared.acked.EventReport.{EventReport}
use Rattle.pdu_parts.specs.declared.lists.Listed.{Listed}
use Rattle.pdu.specs.declared.uplink.Ground.{Ground}
use Rattle.pdu_events.specs.declared.changes.Changes.{Changes}
use Rattle.pdu_events.specs.Changes.{changes_c}
use Rattle.pdu_events.proofs.ChangeNorms.{ChangesSmall, changes-small}
use Rattle.pdu.specs.declared.uplink.Ground.TheVariants as ground
use Rattle.pdu.specs.UplinkTable.{ground_changes, ground_alt, ground_c}
use Rattle.pdu.specs.Default.{written_back}
use Rattle.pdu.specs.declared.downlink.Air.{Air}
use Rattle.pdu.specs.declared.downlink.Air.TheVariants as air
use Rattle.pdu.specs.declared.downlink.AirPdu.{AirPdu}
use Rattle.pdu.specs.Contents.{report_of, emergency_of, event_of}
use Rattle.pdu.specs.DownlinkTable.{air_alt, air_c}
use Rattle.pdu.proofs.DownlinkNorms.{air-norm}
use Rattle.pdu.proofs.Promises.{air-read, ground-read}
use Rattle.host_numbers.specs.UplinkNumbers.{flat_ground, ground_at}
use Rattle.host_numbers.specs.DownlinkNumbers.{flat_air, air_at}
use Rattle.host_numbers.specs.laws.UplinkBack.{ChangesHold, GroundHolds, ground-back}
use Rattle.host_numbers.specs.laws.ReportBack.{ReportHolds}
use Rattle.host_numbers.specs.laws.DownlinkBack.{EmergencyHolds, AirHolds, list_for, pdu-back}
use Rattle.adschost.specs.Flatness.{AirShown, ShowsAir, GroundShown, ShowsGround, WritesFlat}

-- "one possible result and one possible content of each lent buffer"
pub air-one : (d : AirShown) (r q : ℕ) (k l a b : List ℕ) → ShowsAir d r k a → ShowsAir d q l b → (r ≡ q) × (k ≡ l) × (a ≡ b)
air-one d r q k l a b x y = (x.number_is ∙ sym y.number_is, x.numbers_are ∙ sym y.numbers_are, x.list_is ∙ sym y.list_is)

pub ground-one : (d : GroundShown) (r q : ℕ) (k l : List ℕ) → ShowsGround d r k → ShowsGround d q l → (r ≡ q) × (k ≡ l)
ground-one d r q k l x y = (x.number_is ∙ sym y.number_is, x.numbers_are ∙ sym y.numbers_are)

pub flat-one : (d : Delivered) (was r q : ℕ) (a b : List ℕ) (m n : ℕ) → WritesFlat d was r a m → WritesFlat d was q b n → (r ≡ q) × (a ≡ b) × (m ≡ n)
flat-one d was r q a b m n x y = (x.number_is ∙ sym y.number_is, x.octets_are ∙ sym y.octets_are, x.length_is ∙ sym y.length_is)

-- ---- "every octet string accepted writes back the same", through the numbers
list-own : (k : Air) (l : Listed) → air_c.norm (record { kind = k; list = l }) ≡ record { kind = k; list = l } → list_for k l ≡ l
list-own air.CancelEmergency l e = ap (λ (x : AirPdu). x.list) (sym (air-norm air.CancelEmergency l) ∙ e)
list-own (air.Demand a) l e = ap (λ (x : AirPdu). x.list) (sym (air-norm (air.Demand a) l) ∙ e)
list-own (air.Emergency a) l e = ap (λ (x : AirPdu). x.list) (sym (air-norm (air.Emergency a) l) ∙ e)
list-own (air.Event a) l e = ap (λ (x : AirPdu). x.list) (sym (air-norm (air.Event a) l) ∙ e)
list-own (air.Negative a) l e = refl
list-own (air.Noncompliance n) l e = refl
list-own (air.Periodic a) l e = ap (λ (x : AirPdu). x.list) (sym (air-norm (air.Periodic a) l) ∙ e)
list-own (air.Positive n) l e = ap (λ (x : AirPdu). x.list) (sym (air-norm (air.Positive n) l) ∙ e)
list-own (air.Abort n) l e = ap (λ (x : AirPdu). x.list) (sym (air-norm (air.Abort n) l) ∙ e)

-- a value that is read may be written and has no part that is not sent, so 32 bits hold its numbers with a sign
report-holds : (r : Report) → report_c.chk r ≡ 0 → report_c.norm r ≡ r → ReportHolds r
report-holds r h e =
    let s : ReportSmall r = rw e at (report-small r h) in
    record {
      level = omega (arith, s.level);
      speed = omega (arith, s.over_ground.0);
      rate = omega (arith, s.over_ground.1);
      climb = omega (arith, s.air);
      temperature = omega (arith, s.weather);
    }

emergency-holds : (r : EmergencyReport) → emergency_report_c.chk r ≡ 0 → emergency_report_c.norm r ≡ r → EmergencyHolds r
emergency-holds r h e =
    let s : EmergencySmall r = rw e at (emergency-small r h) in
    record { level = omega (arith, s.level); speed = omega (arith, s.over_ground.0); rate = omega (arith, s.over_ground.1) }

event-chk : (a : EventReport) → event_report_c.chk a ≡ 0 → report_c.chk a.report ≡ 0
unfolding event_report_c via dep field
event-chk a h = first-1 ((ext (num 0 11)).chk a.event) (report_c.chk a.report) h

holds-own : (k : Air) (l : Listed) → air_c.chk (record { kind = k; list = l }) ≡ 0 → air_c.norm (record { kind = k; list = l }) ≡ record { kind = k; list = l } → AirHolds k
unfolding air_c air_alt acked_c acked_emergency_c choice alt_codec via dep field
holds-own air.CancelEmergency l h e = tt
holds-own (air.Demand a) l h e = report-holds a.report h (ap (λ (x : AirPdu). (report_of x.kind).report) e)
holds-own (air.Emergency a) l h e = emergency-holds a.report h (ap (λ (x : AirPdu). (emergency_of x.kind).report) e)
holds-own (air.Event a) l h e = report-holds a.report (event-chk a h) (ap (λ (x : AirPdu). (event_of x.kind).report) (sym (air-norm (air.Event a) l) ∙ e))
holds-own (air.Negative a) l h e = tt
holds-own (air.Noncompliance n) l h e = tt
holds-own (air.Periodic a) l h e = report-holds a.report h (ap (λ (x : AirPdu). (report_of x.kind).report) e)
holds-own (air.Positive n) l h e = tt
holds-own (air.Abort n) l h e = tt

names-full : (b : Bool) (l : Listed) → (when b no_list names_c).chk l ≡ 0 → length ((when b no_list names_c).norm l).items ≡ 128
unfolding when absent
names-full true l h = listed-full 8 false 127 l (omega arith) h
names-full false l h = length-replicate {A = ℕ} 128 0

read-full : (k : Air) (l : Listed) → air_c.chk (record { kind = k; list = l }) ≡ 0 → length (air_c.norm (record { kind = k; list = l })).list.items ≡ 128
unfolding air_c air_alt negative_c noncompliance_c choice alt_codec via dep field
read-full air.CancelEmergency l h = length-replicate {A = ℕ} 128 0
read-full (air.Demand a) l h = length-replicate {A = ℕ} 128 0
read-full (air.Emergency a) l h = length-replicate {A = ℕ} 128 0
read-full (air.Event a) l h = length-replicate {A = ℕ} 128 0
read-full (air.Negative a) l h =
    let names = (when (eqb a.reason 2) no_list names_c).chk l in
    let both = first-1 ((num 0 7).chk a.request) (first ((num 0 3).chk a.reason) names) h in
    names-full (eqb a.reason 2) l (first-1 ((num 0 3).chk a.reason) names both)
read-full (air.Noncompliance n) l h = listed-full 1 true (entry_top n) l (omega arith) (first-1 ((index 2).chk n) ((entries_c (entry_top n)).chk l) h)
read-full (air.Periodic a) l h = length-replicate {A = ℕ} 128 0
read-full (air.Positive n) l h = length-replicate {A = ℕ} 128 0
read-full (air.Abort n) l h = length-replicate {A = ℕ} 128 0

pub air-round : (s : List ℕ) (a : AirPdu) → ((i : ℕ) → get_or s i 0 < 256) → read_pdu air_c s ≡ got a
    → encode air_c (air_at (flat_air a.kind a.list.count) a.list.items) ≡ s
air-round s a f e =
    let k = air-read s a f e in
    let long : length a.list.items ≡ 128 = sym (ap (λ (x : AirPdu). length x.list.items) k.1) ∙ read-full a.kind a.list k.0 in
    ap (encode air_c) (pdu-back a (holds-own a.kind a.list k.0 k.1) long (list-own a.kind a.list k.1)) ∙ k.2

changes-hold : (a : Changes) → changes_c.chk a ≡ 0 → changes_c.norm a ≡ a → ChangesHold a
changes-hold a h e =
    let s : ChangesSmall a = rw e at (changes-small a h) in
    record { rate = omega (arith, s.rate); ceiling = omega (arith, s.range.0); floor = omega (arith, s.range.1) }

holds-ground : (g : Ground) → ground_c.chk g ≡ 0 → ground_c.norm g ≡ g → GroundHolds g
unfolding ground_c ground_alt choice alt_codec via dep field
holds-ground ground.CancelAll h e = tt
holds-ground (ground.CancelContract n) h e = tt
holds-ground ground.CancelEmergencyAck h e = tt
holds-ground (ground.DemandContract v) h e = tt
holds-ground (ground.EventContract a) h e = changes-hold a h (ap ground_changes e)
holds-ground (ground.ModifyEmergency i) h e = tt
holds-ground (ground.PeriodicContract a) h e = tt
holds-ground (ground.Abort n) h e = tt

-- or, where the default was sent, to the form without it
pub ground-round : (s : List ℕ) (g : Ground) → ((i : ℕ) → get_or s i 0 < 256) → read_pdu ground_c s ≡ got g → encode ground_c (ground_at (flat_ground g)) ≡ written_back s g
ground-round s g f e =
    let k = ground-read s g f e in
    ap (encode ground_c) (ground-back g (holds-ground g k.0 k.1)) ∙ k.2
