-- Every refusal of a call is on the page. Assumes nothing.
use mathlib.Core.Path.{◌≡◌}
use mathlib.Core.Bool.{Bool, true, false, not}
use mathlib.Core.List.{List}
use Prim.Native.Nat.{ℕ, zero, suc}
use lib.Dec.{T, eqb, leb}
use Rattle.per.specs.Codec.{first, unless}
use Rattle.per.specs.Formats.{field, dep, via, recast, only, absent, when, has, alt_codec, choice}
use Rattle.per.specs.Pdu as per
use Rattle.per.specs.Pdu.{encode, read_pdu, got, refused}
use Rattle.pdu_parts.specs.declared.interval.Interval.{Interval}
use Rattle.pdu_parts.specs.declared.interval.Interval.TheVariants.{Seconds, Minutes}
use Rattle.pdu_parts.specs.declared.periodic.Periodic.{Periodic}
use Rattle.pdu_parts.specs.Elements.{PERIODIC-BITS, PERIODIC-CARRIED, REPORT-BITS, DEMAND-CARRIED}
use Rattle.pdu_events.specs.Changes.{level_range_c, either_c, changes_c}
use Rattle.pdu_parts.specs.Interval.{interval_c, interval_if, is_five, sent_bits, moduli_c, parts_c, to_parts}
use Rattle.pdu_parts.specs.Periodic.{periodic_c}
use Rattle.pdu.specs.declared.uplink.Ground.{Ground}
use Rattle.pdu.specs.declared.uplink.Ground.TheVariants.{CancelAll, CancelContract, CancelEmergencyAck, DemandContract, EventContract, ModifyEmergency, PeriodicContract, Abort}
use Rattle.pdu.specs.declared.downlink.AirPdu.{AirPdu}
use Rattle.pdu.specs.UplinkTable.{ground_alt, ground_c}
use Rattle.pdu.specs.DownlinkTable.{air_c}
use Rattle.link.specs.Tests.{below}
use Rattle.link.specs.Names.{timers, DATA-REQUEST, ABORT-REQUEST, ABORT-IND, PEER-ABORT-IND}
use Rattle.link.specs.Clock.{not_due}
use Rattle.link.specs.Watch.{idle, li_is}
use Rattle.link.specs.Moves.{does_go}
use Rattle.sides.specs.Tables.{member}
use Rattle.ground_answer.specs.Answers.{START-REQUEST, refusal, allowed}
use Rattle.ground_answer.specs.Record.{good, move_at, went}
use Rattle.ground_answer.specs.Events.{air_event, cancel_all, request_event}
use Rattle.ground_tables.specs.Names.{LI-IDLE, LI-START, LI-ACTIVE, LI-END}
use Rattle.ground_answer.specs.Aborts.{aborted, closed, closed_when}
use Rattle.ground_answer.specs.Clock.{waited, elapsed}
use Rattle.ground_answer.specs.Sent.{letter_of, outgoing}
use Rattle.ground_answer.specs.declared.answer.Answer.{Answer}
use Rattle.ground_answer.specs.declared.record.Link.{Link}
use Rattle.ground.specs.Requests.{asked, cancelled, all_cancelled, requested, user_aborted}
use Rattle.ground.specs.Arrivals.{ended, passed, taken, confirmed, late_data, arrived}
use Rattle.ground.specs.Endings.{rejected, failed, reason_of, air_aborted, peer_aborted, over, end_confirmed}
use Rattle.ground.specs.Runs.{answered}
use Rattle.ground.specs.declared.call.Call.{Call}
use Rattle.ground.specs.declared.call.Call.TheVariants.{Request, UserAbort, Elapse, StartConfirm, StartRejected, Data, EndConfirm, PeerAbort, AirAbort, Down}
use Rattle.promises.specs.Calls.{numbers}
use Rattle.promises.proofs.Fields.{On, Held, Given, on, ok, on-pick, in_list, on-first, a-number, a-mask, fields}

-- ---- the fields of a ground PDU: 5, 10 and 15
five : On numbers 5
five = on tt

ten : On numbers 10
ten = on tt

on-interval : (i : Interval) → On numbers (interval_c.chk i)
unfolding interval_c choice alt_codec via dep field
on-interval (Seconds n) = (a-number 1 59 five).each n
on-interval (Minutes n) = (a-number 1 120 five).each n

moduli : (v : ℕ) → Held numbers (moduli_c v)
unfolding moduli_c
moduli v = search (fields, five) depth 12

on-sent : (there : Bool) (i : Interval) → On numbers ((interval_if there).chk i)
unfolding interval_if when absent
on-sent true i = on-interval i
on-sent false i = on tt

on-periodic : (a : Periodic) → On numbers (periodic_c.chk a)
unfolding periodic_c recast dep only field
on-periodic a = go (leb a.elements 127)
  where
    v : ℕ
    v = sent_bits (is_five a.interval) a.elements

    go : (b : Bool) → On numbers (first (unless b 5) (parts_c.chk (to_parts a)))
    go false = on tt
    go true =
        on-first ((a-mask PERIODIC-BITS PERIODIC-CARRIED five ten).each v)
        (on-first (on-sent (has 128 v) a.interval) ((moduli v).each (a.address, (a.profile, (a.over_ground, (a.air, a.weather))))))

fifteen : On numbers 15
fifteen = on tt

on-range : Held numbers level_range_c
unfolding level_range_c
on-range = search (fields, five) depth 12

on-either : (first second : ℕ) → Held numbers (either_c first second)
unfolding either_c
on-either first second = search (fields, five) depth 12

on-changes : Held numbers changes_c
unfolding changes_c
on-changes = search (fields, five, ten, fifteen, on-range, on-either) depth 28

on-ground : (g : Ground) → On numbers (ground_c.chk g)
unfolding ground_c ground_alt choice alt_codec via dep field absent
on-ground CancelAll = on tt
on-ground (CancelContract n) = (a-number 0 1 five).each n
on-ground CancelEmergencyAck = on tt
on-ground (DemandContract v) = (a-mask REPORT-BITS DEMAND-CARRIED five ten).each v
on-ground (EventContract a) = on-changes.each a
on-ground (ModifyEmergency i) = on-interval i
on-ground (PeriodicContract a) = on-periodic a
on-ground (Abort n) = (a-number 0 7 five).each n

on-outgoing : (g : Ground) → On numbers (outgoing g).refusal
unfolding outgoing letter_of
on-outgoing g = go (ground_c.chk g) (on-ground g)
  where
    go : (n : ℕ) → On numbers n → On numbers (letter_of n (encode ground_c g)).refusal
    go zero h = on tt
    go (suc n) h = h

-- ---- the calls

abbrev OnA : Answer → Type 0
OnA a = Given numbers (λ (x : Answer). x.said.refusal) a

-- a call that may be made or not, on a record that is good or not
on-allowed : (l : Link) (may : Bool) (number : ℕ) {a : Answer} → OnA (refusal l number) → OnA a → OnA (allowed l may number a)
on-allowed l may number r p = on-pick (good l) (on-pick may p r) (ok tt)

on-closed : (l : Link) (may : Bool) (number entry reason : ℕ) → OnA (refusal l number) → OnA (closed_when l may number entry reason)
unfolding closed_when closed
on-closed l may number entry reason r = on-allowed l may number r (ok tt)

on-taken : (l : Link) (r : per.Answer AirPdu) → OnA (taken l r)
unfolding taken passed ended aborted
on-taken l (got a) =
    let e = air_event a.kind in
    on-pick (does_go (move_at l LI-ACTIVE e)) (on-pick (idle (went l LI-ACTIVE e 0 DATA-REQUEST).at) (ok tt) (ok tt)) (ok tt)
on-taken l (refused n) = ok tt

on-asked : (l : Link) (g : Ground) (li entry : ℕ) → OnA (asked l g li entry)
unfolding asked
on-asked l g li entry =
    on-pick (does_go (move_at l li (request_event g))) (on-pick (eqb (outgoing g).refusal 0) (ok tt) (record { is = on-outgoing g })) (ok tt)

on_call : (l : Link) (c : Call) (s : List ℕ) → OnA (answered l c s)
unfolding answered requested all_cancelled cancelled user_aborted elapsed waited confirmed rejected arrived late_data end_confirmed over peer_aborted air_aborted failed aborted
on_call l (Request g) s =
    on-pick (eqb (request_event g) cancel_all) (on-allowed l (li_is l.at LI-ACTIVE) 1 (ok tt) (ok tt))
    (on-pick (good l) (on-pick (li_is l.at LI-IDLE) (on-asked l g LI-START START-REQUEST) (on-pick (li_is l.at LI-ACTIVE) (on-asked l g LI-ACTIVE DATA-REQUEST) (ok tt))) (ok tt))
on_call l UserAbort s = on-closed l (not (li_is l.at LI-IDLE)) 1 ABORT-REQUEST 0 (ok tt)
on_call l (Elapse n) s = on-allowed l (leb n 86400) 4 (ok tt) (on-pick (below timers (not_due n l.left)) (ok tt) (ok tt))
on_call l StartConfirm s = on-allowed l (li_is l.at LI-START) 2 (ok tt) (on-taken l (read_pdu air_c s))
on_call l StartRejected s = on-closed l (li_is l.at LI-START) 2 ABORT-IND 5 (ok tt)
on_call l Data s =
    on-pick (good l) (on-pick (li_is l.at LI-ACTIVE) (on-taken l (read_pdu air_c s)) (on-pick (li_is l.at LI-END) (ok tt) (ok tt))) (ok tt)
on_call l EndConfirm s = on-allowed l (li_is l.at LI-END) 2 (ok tt) (ok tt)
on_call l PeerAbort s = on-closed l (not (li_is l.at LI-IDLE)) 2 PEER-ABORT-IND 0 (ok tt)
on_call l AirAbort s = on-closed l (not (li_is l.at LI-IDLE)) 2 ABORT-IND (reason_of (read_pdu air_c s)) (ok tt)
on_call l Down s = on-closed l (not (li_is l.at LI-IDLE)) 2 ABORT-IND 0 (ok tt)

pub listed : (l : Link) (c : Call) (s : List ℕ) → eqb (answered l c s).said.refusal 0 ≡ false → T (member (answered l c s).said.refusal numbers)
listed l c s = in_list (on_call l c s).is
