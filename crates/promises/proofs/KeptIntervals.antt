-- 02, L2, of intervals, from the tables and the definitions of the calls. Assumes nothing.
use mathlib.Core.Path.{◌≡◌, refl, sym, ap, subst, ◌∙◌}
use mathlib.Core.Bool.{Bool, true, false}
use mathlib.Core.List.{List}
use Prim.Native.Nat.{ℕ, ◌≤◌}
use native.Mathlib.Omega.{arith}
use lib.Dec.{T, eqb, leb, leb→le, eqb→eq}
use lib.ListN.{get_or, set}
use lib.Seq.{get_or-set_other}
use borrow.Author.Tests.{eq-eqb, eqb-true, eqb-false}
use Rattle.pdu_parts.specs.declared.periodic.Periodic.{Periodic}
use Rattle.pdu.specs.declared.uplink.Ground.TheVariants.{PeriodicContract}
use Rattle.pdu.specs.declared.downlink.AirPdu.{AirPdu}
use Rattle.link.specs.Tests.{both, either, pick, below}
use Rattle.link.specs.Names.{timers, PC, LI, DATA-REQUEST}
use Rattle.link.specs.Watch.{setting_ok, idle, li_is}
use Rattle.link.specs.declared.moves.Move.{Move}
use Rattle.link.proofs.Laws.{both_left, both_right, no_true, T-eq}
use Rattle.sides.specs.Tables.{move_of}
use Rattle.link.specs.Moves.{to, stop, send, start, unlisted, does_go}
use Rattle.ground_tables.specs.Names.{START-PENDING, PENDING, PC1, LI-IDLE, LI-START, LI-ACTIVE}
use Rattle.ground_tables.specs.Moves.{contract_rows, ground_rows, pc2_quiet}
use Rattle.ground_tables.specs.Intervals.{no_intervals, asked_at, holds, interval_ok, intervals_ok, agrees, answers, agreed}
use Rattle.ground_tables.specs.declared.intervals.Intervals.{Intervals}
use Rattle.ground_tables.specs.Tables.{ground_tables}
use Rattle.ground_answer.specs.Record.{good, followed, move_at, agreed_at, went}
use Rattle.ground_answer.specs.Answers.{START-REQUEST}
use Rattle.ground_answer.specs.Sent.{outgoing}
use Rattle.ground_answer.specs.Events.{air_event, request_event, asks_for, seconds_of}
use Rattle.ground_answer.specs.declared.record.Link.{Link}
use Rattle.ground_answer.specs.declared.answer.Answer.{Answer}
use Rattle.ground.specs.Requests.{asked, requested}
use Rattle.ground.specs.Arrivals.{ended, passed, taken, confirmed, arrived}
use Rattle.ground.specs.Runs.{answered}
use Rattle.ground.specs.declared.call.Call.{Call}
use Rattle.ground.specs.declared.call.Call.TheVariants.{Request, UserAbort, Elapse, StartConfirm, StartRejected, Data, EndConfirm, PeerAbort, AirAbort, Down}
use Rattle.promises.specs.Intervals as page
use Rattle.promises.specs.Intervals.{Comes, starting, active, Heard}

interval-either : (b : Bool) (x y : Answer) (i : Intervals) → x.link.interval ≡ i → y.link.interval ≡ i → (pick b x y).link.interval ≡ i
interval-either true x y i p q = p
interval-either false x y i p q = q

-- ---- data

-- what data makes of the intervals where its move goes
passed_on : (l : Link) (e : ℕ) → does_go (move_at l LI-ACTIVE e) ≡ true → (passed l e).link.interval ≡ agreed l.interval e 0 (move_at l LI-ACTIVE e)
unfolding passed ended agreed_at followed
passed_on l e g = rw g (interval-either (idle (went l LI-ACTIVE e 0 2).at) _ _ _ refl refl)

-- PC's state, where LI goes to another
pc-at : (at : List ℕ) (k s : ℕ) → get_or at PC 0 ≡ s → get_or (set at LI k) PC 0 ≡ s
pc-at at k s e = get_or-set_other at LI PC k 0 (λ q. omega arith) ∙ e

-- data that is taken is passed on
heard-as : (l : Link) (c : Call) (octets : List ℕ) (a : AirPdu) → Heard l c octets a → answered l c octets ≡ passed l (air_event a.kind)
unfolding answered confirmed arrived taken
heard-as l c octets a h = go c h.comes
  where
    go : (c : Call) → Comes l c → answered l c octets ≡ passed l (air_event a.kind)
    go StartConfirm (starting at) = rw (T-eq (good l) h.is_good, eq-eqb (get_or l.at LI 0) LI-START at, h.reads)
    go Data (active at) = rw (T-eq (good l) h.is_good, eq-eqb (get_or l.at LI 0) LI-ACTIVE at, h.reads)
    go (Request g) x = elim x [ ]
    go UserAbort x = elim x [ ]
    go (Elapse n) x = elim x [ ]
    go StartRejected x = elim x [ ]
    go EndConfirm x = elim x [ ]
    go PeerAbort x = elim x [ ]
    go AirAbort x = elim x [ ]
    go Down x = elim x [ ]

-- one of three events, one of two states
agrees-one : (P : ℕ → Type 0) (e : ℕ) → T (agrees e) → P 36 → P 38 → P 40 → P e
unfolding agrees
agrees-one P e t p q r = go (eqb e 36) (eqb e 38) (eqb e 40) refl refl refl t
  where
    go : (x y z : Bool) → eqb e 36 ≡ x → eqb e 38 ≡ y → eqb e 40 ≡ z → T (either x (either y z)) → P e
    go true y z a b d u = subst P (sym (eqb-true e 36 a)) p
    go false true z a b d u = subst P (sym (eqb-true e 38 b)) q
    go false false true a b d u = subst P (sym (eqb-true e 40 d)) r
    go false false false a b d u = absurd u

asked-one : (P : ℕ → Type 0) (s : ℕ) → T (holds asked_at s) → P 1 → P 2 → P s
asked-one P s t p q =
    let low = leb→le 1 s (both_left (leb 1 s) (leb s 2) t) in
    let high = leb→le s 2 (both_right (leb 1 s) (leb s 2) t) in
    go (eqb s 1) refl low high
  where
    go : (b : Bool) → eqb s 1 ≡ b → 1 ≤ s → s ≤ 2 → P s
    go true e low high = subst P (sym (eqb-true s 1 e)) p
    go false e low high = let n = eqb-false s 1 e in subst P (omega arith) q

-- at a state of PC that is known, on an event that is known, the tables compute what becomes of the intervals
module _ (l : Link) where
  abbrev Becomes : ℕ → ℕ → ℕ → Type 0
  Becomes e asked force = (passed l e).link.interval ≡ record { asked = asked; force = force }

  abbrev Agreed : ℕ → Type 0
  Agreed e = Becomes e 0 l.interval.asked

  in_start : get_or l.at PC 0 ≡ 1 → Agreed 36 × (Agreed 38 × Agreed 40)
  unfolding move_at move_of ground_tables ground_rows contract_rows agreed agrees answers
  in_start p =
      let q = pc-at l.at LI-ACTIVE 1 p in
      (passed_on l 36 (rw q) ∙ rw q, (passed_on l 38 (rw q) ∙ rw q, passed_on l 40 (rw q) ∙ rw q))

  in-pending : get_or l.at PC 0 ≡ 2
      → Agreed 36 × (Agreed 38 × (Agreed 40 × (Becomes 42 0 l.interval.force × Becomes 37 l.interval.asked l.interval.force)))
  unfolding move_at move_of ground_tables ground_rows contract_rows agreed agrees answers
  in-pending p =
      let q = pc-at l.at LI-ACTIVE 2 p in
      (passed_on l 36 (rw q) ∙ rw q, (passed_on l 38 (rw q) ∙ rw q, (passed_on l 40 (rw q) ∙ rw q, (passed_on l 42 (rw q) ∙ rw q, passed_on l 37 (rw q) ∙ rw q))))

  into-force : (e : ℕ) → T (agrees e) → T (holds asked_at (get_or l.at PC 0)) → Agreed e
  into-force e a h =
      asked-one (λ s. get_or l.at PC 0 ≡ s → Agreed e) (get_or l.at PC 0) h
      (λ p. let r = in_start p in agrees-one Agreed e a r.0 r.1.0 r.1.1)
      (λ p. let r = in-pending p in agrees-one Agreed e a r.0 r.1.0 r.1.1.0)
      refl

-- ---- a periodic request
both_true : (x : Bool) → both x true ≡ x
both_true true = refl
both_true false = refl

both_false : (x : Bool) → both x false ≡ false
both_false true = refl
both_false false = refl

-- it goes at IDLE and at ACTIVE alone
request-at : (at : List ℕ) → move_of ground_tables at 32
    ≡ pick (eqb (get_or at PC 0) 0) (send (start PC1 (to PC START-PENDING)))
    (pick (eqb (get_or at PC 0) 3) (stop (pc2_quiet at) (send (start PC1 (to PC PENDING)))) (unlisted 0))
unfolding move_of ground_tables ground_rows contract_rows
request-at at = simp (both_true, both_false)

-- what an accepted one makes of the intervals
asking : (i : Intervals) (n : ℕ) (at : List ℕ) → does_go (move_of ground_tables at 32) ≡ true
    → agreed i 32 n (move_of ground_tables at 32) ≡ record { asked = n; force = i.force }
unfolding agreed agrees answers
asking i n at = rw (request-at at) (go (eqb (get_or at PC 0) 0) (eqb (get_or at PC 0) 3))
  where
    m : Bool → Bool → Move
    m x y = pick x (send (start PC1 (to PC START-PENDING))) (pick y (stop (pc2_quiet at) (send (start PC1 (to PC PENDING)))) (unlisted 0))

    go : (x y : Bool) → does_go (m x y) ≡ true → agreed i 32 n (m x y) ≡ record { asked = n; force = i.force }
    go true y h = refl
    go false true h = refl
    go false false h = absurd (no_true (sym h))

-- an answer that is accepted leaves these intervals
abbrev Leaves : Intervals → Answer → Type 0
Leaves i a = a.said.refusal ≡ 0 → a.link.interval ≡ i

leaves_either : (i : Intervals) (b : Bool) (x y : Answer) → (b ≡ true → Leaves i x) → (b ≡ false → Leaves i y) → Leaves i (pick b x y)
leaves_either i true x y p q = p refl
leaves_either i false x y p q = q refl

asked-so : (l : Link) (a : Periodic) (li entry : ℕ) → Leaves (record { asked = seconds_of a.interval; force = l.interval.force }) (asked l (PeriodicContract a) li entry)
unfolding asked request_event asks_for agreed_at followed move_at
asked-so l a li entry =
    let i : Intervals = record { asked = seconds_of a.interval; force = l.interval.force } in
    leaves_either i (does_go (move_at l li 32)) _ _
    (λ g. leaves_either i (eqb (outgoing (PeriodicContract a)).refusal 0) _ _
    (λ o h. asking l.interval (seconds_of a.interval) (set l.at LI li) g)
    (λ o h. absurd (no_true (sym (eq-eqb _ 0 h) ∙ o))))
    (λ g h. absurd (omega (arith, h)))

asks : (l : Link) (a : Periodic) (octets : List ℕ) → Leaves (record { asked = seconds_of a.interval; force = l.interval.force }) (answered l (Request (PeriodicContract a)) octets)
unfolding answered requested request_event
asks l a octets =
    let i : Intervals = record { asked = seconds_of a.interval; force = l.interval.force } in
    leaves_either i (good l) _ _
    (λ g. leaves_either i (li_is l.at LI-IDLE) _ _ (λ b. asked-so l a LI-START START-REQUEST)
    (λ b. leaves_either i (li_is l.at LI-ACTIVE) _ _ (λ d. asked-so l a LI-ACTIVE DATA-REQUEST) (λ d h. absurd (omega (arith, h)))))
    (λ g h. absurd (omega (arith, h)))

-- ---- none in IDLE
none-idle : (l : Link) → T (good l) → get_or l.at PC 0 ≡ 0 → l.interval ≡ no_intervals
unfolding good intervals_ok interval_ok
none-idle l g p =
    let i = rw p at (both_left (intervals_ok (get_or l.at PC 0) l.interval) _ (both_right (below timers (setting_ok l.setting)) _ g)) in
    let a = eqb→eq l.interval.asked 0 (both_left (eqb l.interval.asked 0) (eqb l.interval.force 0) i) in
    let f = eqb→eq l.interval.force 0 (both_right (eqb l.interval.asked 0) (eqb l.interval.force 0) i) in
    rw (a, f)

pub intervals : page.Intervals
intervals = record {
  asks = asks;
  comes_into_force = λ l c s a h e t. ap (λ (x : Answer). x.link.interval) (heard-as l c s a h) ∙ into-force l (air_event a.kind) e t;
  old_stays = λ l c s a h e t. ap (λ (x : Answer). x.link.interval) (heard-as l c s a h ∙ ap (passed l) e) ∙ (in-pending l t).1.1.1.0;
  no_answer = λ l c s a h e t. ap (λ (x : Answer). x.link.interval) (heard-as l c s a h ∙ ap (passed l) e) ∙ (in-pending l t).1.1.1.1;
  none_in_idle = none-idle;
}
