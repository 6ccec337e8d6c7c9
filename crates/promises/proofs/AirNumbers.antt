-- Every refusal of a call on an air link is on the page. Assumes nothing.
use mathlib.Core.Path.{◌≡◌}
use mathlib.Core.Bool.{Bool, true, false, not}
use mathlib.Core.List.{List}
use Prim.Native.Nat.{ℕ, zero, suc}
use lib.Dec.{T, eqb, leb}
use lib.ListN.{length}
use Rattle.per.specs.Formats.{field, dep, via, absent, alt_codec, choice}
use Rattle.per.specs.Pdu as per
use Rattle.per.specs.Pdu.{encode, read_pdu, got, refused}
use Rattle.pdu_parts.specs.declared.lists.Listed.{Listed}
use Rattle.pdu_parts.specs.Reports.{angle_c, position_c, time_c, merit_c, fix_c, report_c, emergency_report_c}
use Rattle.pdu_parts.specs.Vectors.{ground_vector_c, air_speed_c, air_vector_c, weather_c}
use Rattle.pdu_parts.specs.Lists.{listed, entry_c}
use Rattle.pdu_parts.specs.AirParts.{acked_c, acked_emergency_c, event_report_c, negative_c, noncompliance_c}
use Rattle.pdu.specs.declared.downlink.Air.{Air}
use Rattle.pdu.specs.declared.downlink.Air.TheVariants.{CancelEmergency, Demand, Emergency, Event, Negative, Noncompliance, Periodic, Positive, Abort}
use Rattle.pdu.specs.declared.downlink.AirPdu.{AirPdu}
use Rattle.pdu.specs.declared.uplink.Ground.{Ground}
use Rattle.pdu.specs.UplinkTable.{ground_tag, ground_c}
use Rattle.pdu.specs.DownlinkTable.{air_alt, air_c}
use Rattle.link.specs.Tests.{both, below}
use Rattle.link.specs.Names.{timers, DATA-REQUEST, ABORT-REQUEST, ABORT-IND, PEER-ABORT-IND}
use Rattle.link.specs.Clock.{not_due}
use Rattle.link.specs.Watch.{li_is}
use Rattle.link.specs.Moves.{does_go}
use Rattle.sides.specs.Tables.{member}
use Rattle.air_tables.specs.Names.{LI-IDLE, LI-START, LI-ACTIVE}
use Rattle.air_answer.specs.Answers.{START-RESPONSE, refusal, allowed}
use Rattle.air_answer.specs.Record.{good, move_at}
use Rattle.air_answer.specs.Events.{request_event, opens, uplink_event, may_come}
use Rattle.air_answer.specs.Aborts.{aborted, closed, closed_when}
use Rattle.air_answer.specs.Clock.{waited, elapsed}
use Rattle.air_answer.specs.Sent.{letter_of, outgoing}
use Rattle.air_answer.specs.declared.answer.Answer.{Answer}
use Rattle.air_answer.specs.declared.record.AirLink.{AirLink}
use Rattle.air.specs.Requests.{asked, requested, user_aborted}
use Rattle.air.specs.Arrivals.{passed, taken, indicated, arrived, ended, all_cancelled, end_indicated}
use Rattle.air.specs.Endings.{failed, reason_of, ground_aborted, peer_aborted}
use Rattle.air.specs.Runs.{answered}
use Rattle.air.specs.declared.call.Call.{Call}
use Rattle.air.specs.declared.call.Call.TheVariants.{Request, UserAbort, Elapse, StartInd, Data, EndInd, PeerAbort, GroundAbort, Down}
use Rattle.promises.specs.Air.{air_numbers}
use Rattle.promises.proofs.Fields.{On, Held, Given, on, ok, on-pick, in_list, a-number, fields}

-- ---- the fields of an aircraft PDU: 5, 10 and 12
five : On air_numbers 5
five = on tt

ten : On air_numbers 10
ten = on tt

twelve : On air_numbers 12
twelve = on tt

angle : (top : ℕ) → Held air_numbers (angle_c top)
unfolding angle_c
angle top = search (fields, five) depth 12

position : Held air_numbers position_c
unfolding position_c
position = search (fields, five, angle) depth 12

time : Held air_numbers time_c
unfolding time_c
time = search (fields, five) depth 12

merit : Held air_numbers merit_c
unfolding merit_c
merit = search (fields, five) depth 12

fix : Held air_numbers fix_c
unfolding fix_c
fix = search (fields, position, time, merit) depth 12

ground-vector : Held air_numbers ground_vector_c
unfolding ground_vector_c
ground-vector = search (fields, five, ten) depth 12

air-speed : Held air_numbers air_speed_c
unfolding air_speed_c
air-speed = search (fields, five) depth 12

air-vector : Held air_numbers air_vector_c
unfolding air_vector_c
air-vector = search (fields, five, ten, air-speed) depth 12

weather : Held air_numbers weather_c
unfolding weather_c
weather = search (fields, five, ten) depth 12

report : Held air_numbers report_c
unfolding report_c
report = search (fields, five, ten, fix, ground-vector, air-vector, weather) depth 12

emergency-report : Held air_numbers emergency_report_c
unfolding emergency_report_c
emergency-report = search (fields, five, ten, fix, ground-vector) depth 12

entry : (marked : Bool) (top : ℕ) → Held air_numbers (entry_c marked top)
unfolding entry_c
entry true top = search (fields, five)
entry false top = search (fields, five)

list_of : (m : ℕ) (marked : Bool) (top : ℕ) → Held air_numbers (listed m (entry_c marked top))
unfolding listed
list_of m marked top = search (fields, five, twelve, entry)

acked : Held air_numbers acked_c
unfolding acked_c
acked = search (fields, report)

acked-emergency : Held air_numbers acked_emergency_c
unfolding acked_emergency_c
acked-emergency = search (fields, emergency-report)

event : Held air_numbers event_report_c
unfolding event_report_c
event = search (fields, five, report) depth 12

negative : Held air_numbers negative_c
unfolding negative_c
negative = search (fields, five, list_of) depth 12

noncompliance : Held air_numbers noncompliance_c
unfolding noncompliance_c
noncompliance = search (fields, five, list_of) depth 12

on-kind : (kind : Air) (list : Listed) → On air_numbers (air_c.chk (record { kind = kind; list = list }))
unfolding air_c air_alt choice alt_codec via dep field absent
on-kind CancelEmergency list = on tt
on-kind (Demand a) list = acked.each a
on-kind (Emergency a) list = acked-emergency.each a
on-kind (Event a) list = event.each a
on-kind (Negative a) list = negative.each (a, list)
on-kind (Noncompliance n) list = noncompliance.each (n, list)
on-kind (Periodic a) list = acked.each a
on-kind (Positive n) list = (a-number 0 7 five).each n
on-kind (Abort n) list = (a-number 0 7 five).each n

on-outgoing : (a : AirPdu) → On air_numbers (outgoing a).refusal
unfolding outgoing letter_of
on-outgoing a = go (air_c.chk a) (on-kind a.kind a.list)
  where
    go : (n : ℕ) → On air_numbers n → On air_numbers (letter_of n (encode air_c a)).refusal
    go zero h = on tt
    go (suc n) h = h

-- ---- the calls

abbrev OnA : Answer → Type 0
OnA a = Given air_numbers (λ (x : Answer). x.said.refusal) a

-- a call that may be made or not, on a record that is good or not
on-allowed : (l : AirLink) (may : Bool) (number : ℕ) {a : Answer} → OnA (refusal l number) → OnA a → OnA (allowed l may number a)
on-allowed l may number r p = on-pick (good l) (on-pick may p r) (ok tt)

on-closed : (l : AirLink) (may : Bool) (number entry reason : ℕ) → OnA (refusal l number) → OnA (closed_when l may number entry reason)
unfolding closed_when closed
on-closed l may number entry reason r = on-allowed l may number r (ok tt)

on-taken : (l : AirLink) (k : ℕ) (r : per.Answer Ground) → OnA (taken l k r)
unfolding taken passed aborted
on-taken l k (got g) = on-pick (may_come k (uplink_event g)) (on-pick (does_go (move_at l k (uplink_event g))) (ok tt) (ok tt)) (ok tt)
on-taken l k (refused n) = ok tt

on-all-cancelled : (l : AirLink) (r : per.Answer Ground) → OnA (all_cancelled l r)
unfolding all_cancelled ended aborted
on-all-cancelled l (got g) = on-pick (eqb (ground_tag g) 0) (ok tt) (ok tt)
on-all-cancelled l (refused n) = ok tt

on-asked : (l : AirLink) (a : AirPdu) (entry : ℕ) → OnA (asked l a entry)
unfolding asked
on-asked l a entry =
    on-pick (does_go (move_at l LI-ACTIVE (request_event a.kind))) (on-pick (eqb (outgoing a).refusal 0) (ok tt) (record { is = on-outgoing a })) (ok tt)

on_call : (l : AirLink) (c : Call) (list : Listed) (s : List ℕ) → OnA (answered l c list s)
unfolding answered requested user_aborted elapsed waited indicated arrived end_indicated ended peer_aborted ground_aborted failed aborted
on_call l (Request kind) list s =
    let a : AirPdu = record { kind = kind; list = list } in
    on-pick (good l)
    (on-pick (li_is l.at LI-ACTIVE) (on-asked l a DATA-REQUEST) (on-pick (both (li_is l.at LI-START) (opens kind)) (on-asked l a START-RESPONSE) (ok tt)))
    (ok tt)
on_call l UserAbort list s = on-closed l (not (li_is l.at LI-IDLE)) 1 ABORT-REQUEST 0 (ok tt)
on_call l (Elapse n) list s = on-allowed l (leb n 86400) 4 (ok tt) (on-pick (below timers (not_due n l.left)) (ok tt) (ok tt))
on_call l StartInd list s = on-allowed l (li_is l.at LI-IDLE) 2 (ok tt) (on-taken l LI-START (read_pdu ground_c s))
on_call l Data list s = on-allowed l (li_is l.at LI-ACTIVE) 2 (ok tt) (on-taken l LI-ACTIVE (read_pdu ground_c s))
on_call l EndInd list s = on-allowed l (li_is l.at LI-ACTIVE) 2 (ok tt) (on-pick (eqb (length s) 0) (ok tt) (on-all-cancelled l (read_pdu ground_c s)))
on_call l PeerAbort list s = on-closed l (not (li_is l.at LI-IDLE)) 2 PEER-ABORT-IND 0 (ok tt)
on_call l GroundAbort list s = on-closed l (not (li_is l.at LI-IDLE)) 2 ABORT-IND (reason_of (read_pdu ground_c s)) (ok tt)
on_call l Down list s = on-closed l (not (li_is l.at LI-IDLE)) 2 ABORT-IND 0 (ok tt)

pub listed-air : (l : AirLink) (c : Call) (list : Listed) (s : List ℕ) → eqb (answered l c list s).said.refusal 0 ≡ false → T (member (answered l c list s).said.refusal air_numbers)
listed-air l c list s = in_list (on_call l c list s).is
