-- Every answer is of one of nine kinds; what holds of each kind holds of every answer to every call. Assumes nothing.
use mathlib.Core.Path.{◌≡◌, refl}
use mathlib.Core.Bool.{Bool, true, false, not}
use mathlib.Core.List.{List}
use Prim.Native.Nat.{ℕ}
use lib.Dec.{T, leb, eqb}
use Rattle.per.specs.Pdu as per
use Rattle.per.specs.Pdu.{read_pdu, got, refused}
use Rattle.pdu.specs.declared.uplink.Ground.{Ground}
use Rattle.pdu.specs.declared.downlink.AirPdu.{AirPdu}
use Rattle.pdu.specs.DownlinkTable.{air_c}
use Rattle.link.specs.Tests.{either, pick, below}
use Rattle.link.specs.Names.{timers, ABORT-REQUEST, ABORT-IND, PEER-ABORT-IND, DATA-REQUEST}
use Rattle.link.specs.Clock.{not_due}
use Rattle.link.specs.Step.{performed}
use Rattle.link.proofs.Laws.{eq-T, pick-case, pick_same, allowed-case}
use Rattle.link.specs.Watch.{idle, li_is}
use Rattle.link.specs.Moves.{does_go}
use Rattle.sides.specs.Runs.{seconds}
use Rattle.ground_tables.specs.Names.{LI-IDLE, LI-START, LI-ACTIVE, LI-END}
use Rattle.ground_tables.specs.Moves.{li_end}
use Rattle.ground_tables.specs.Tables.{li_busy}
use Rattle.ground_tables.proofs.KeptIntervals.{asks_well}
use Rattle.ground_answer.specs.Record.{loads, good, move_at, agreed_at, went}
use Rattle.ground_answer.specs.declared.record.Link.{Link}
use Rattle.ground_answer.specs.Events.{cancel_all, request_event, asks_for, air_event}
use Rattle.ground_answer.specs.Sent.{outgoing}
use Rattle.ground_answer.specs.declared.sent.Sent.{Sent}
use Rattle.ground_answer.specs.Answers.{START-REQUEST, END-REQUEST, refusal, tells}
use Rattle.ground_answer.specs.Aborts.{aborted, closed, closed_when}
use Rattle.ground_answer.specs.Clock.{waited, elapsed}
use Rattle.ground.proofs.Asks.{asked-well, data-well}
use Rattle.ground.specs.Requests.{asked, cancelled, all_cancelled, requested, user_aborted}
use Rattle.ground.specs.Arrivals.{ack_of, ended, passed, taken, confirmed, late_data, arrived}
use Rattle.ground.specs.Endings.{rejected, failed, reason_of, air_aborted, peer_aborted, over, end_confirmed}
use Rattle.ground.specs.Runs.{answered, Made, reply, elapse_of, ground}
use Rattle.ground_answer.specs.declared.answer.Answer.{Answer}
use Rattle.ground.specs.declared.call.Call.{Call}
use Rattle.ground.specs.declared.call.Call.TheVariants.{Request, UserAbort, Elapse, StartConfirm, StartRejected, Data, EndConfirm, PeerAbort, AirAbort, Down}

-- LI goes to k first: from IDLE to START, from START or ACTIVE to ACTIVE
pub data Way (at : List ℕ) : ℕ → Type 0 where
  starts : T (li_is at LI-IDLE) → Way at LI-START
  stays_open : T (li_busy at) → Way at LI-ACTIVE

-- P holds of the accepted seconds and the answer of each kind
pub record Kinds (l : Link) (P : ℕ → Answer → Type 0) : Type 0 where
  pub stays : (n : ℕ) → eqb n 0 ≡ false → P 0 (refusal l n)
  pub aborts : (n s : ℕ) → T (good l) → P s (aborted l n)
  pub closes : (entry reason : ℕ) → T (good l) → P 0 (closed l entry reason)
  pub cancels : T (good l) → P 0 (cancelled l)
  pub goes : (k e n entry : ℕ) (s : Sent) → T (good l) → Way l.at k → does_go (move_at l k e) ≡ true → T (asks_well e n)
      → P 0 (tells (agreed_at l k e n) (went l k e n entry) 0 s)
  pub ends : (e : ℕ) (s : Sent) → T (good l) → T (li_busy l.at) → does_go (move_at l LI-ACTIVE e) ≡ true → T (asks_well e 0)
      → T (idle (went l LI-ACTIVE e 0 DATA-REQUEST).at)
      → P 0 (tells (agreed_at l LI-ACTIVE e 0) (performed (went l LI-ACTIVE e 0 DATA-REQUEST) li_end (loads (agreed_at l LI-ACTIVE e 0)) END-REQUEST) 0 s)
  pub waits : (n : ℕ) → T (good l) → T (below timers (not_due n l.left)) → P n (waited l n)
  pub turns : T (good l) → T (li_is l.at LI-END) → P 0 (over l)
  pub late : T (good l) → P 0 (late_data l)

busy-start : (at : List ℕ) → T (li_is at LI-START) → T (li_busy at)
unfolding li_busy
busy-start at t = go (li_is at LI-START) t
  where
    go : (x : Bool) → T x → T (either x (li_is at LI-ACTIVE))
    go true u = tt
    go false u = absurd u

busy-active : (at : List ℕ) → T (li_is at LI-ACTIVE) → T (li_busy at)
unfolding li_busy
busy-active at t = go (li_is at LI-START) (li_is at LI-ACTIVE) t
  where
    go : (x y : Bool) → T y → T (either x y)
    go true y u = tt
    go false y u = u

module _ (l : Link) (P : ℕ → Answer → Type 0) (k : Kinds l P) where
  closing : (may : Bool) (number entry reason : ℕ) → eqb number 0 ≡ false → P 0 (closed_when l may number entry reason)
  unfolding closed_when
  closing may number entry reason h = allowed-case (P 0) (good l) may (closed l entry reason) (k.stays 29 refl) (k.stays number h) (λ g m. k.closes entry reason g)

  asking : (g : Ground) (li entry : ℕ) → Way l.at li → T (good l) → P 0 (asked l g li entry)
  unfolding asked
  asking g li entry w ok =
      pick-case (P 0) (does_go (move_at l li (request_event g)))
      (λ f. pick-case (P 0) (eqb (outgoing g).refusal 0) (λ r. k.goes li (request_event g) (asks_for g) entry (outgoing g).sent ok w f (asked-well g r)) (λ r. k.stays (outgoing g).refusal r))
      (λ f. k.stays 1 refl)

  requesting : (g : Ground) → P 0 (requested l g)
  unfolding requested all_cancelled
  requesting g =
      pick-case (P 0) (eqb (request_event g) cancel_all)
      (λ e. allowed-case (P 0) (good l) (li_is l.at LI-ACTIVE) (cancelled l) (k.stays 29 refl) (k.stays 1 refl) (λ g m. k.cancels g))
      (λ e. pick-case (P 0) (good l)
      (λ ok. pick-case (P 0) (li_is l.at LI-IDLE) (λ i. asking g LI-START START-REQUEST (starts (eq-T _ i)) (eq-T _ ok))
      (λ i. pick-case (P 0) (li_is l.at LI-ACTIVE) (λ j. asking g LI-ACTIVE DATA-REQUEST (stays_open (busy-active l.at (eq-T _ j))) (eq-T _ ok)) (λ j. k.stays 1 refl)))
      (λ bad. k.stays 29 refl))

  passing : (e : ℕ) → T (asks_well e 0) → T (good l) → T (li_busy l.at) → P 0 (passed l e)
  unfolding passed ended
  passing e w ok b =
      pick-case (P 0) (does_go (move_at l LI-ACTIVE e))
      (λ f. pick-case (P 0) (idle (went l LI-ACTIVE e 0 DATA-REQUEST).at)
      (λ i. k.ends e (ack_of (move_at l LI-ACTIVE e)) ok b f w (eq-T _ i))
      (λ i. k.goes LI-ACTIVE e 0 DATA-REQUEST (ack_of (move_at l LI-ACTIVE e)) ok (stays_open b) f w))
      (λ f. k.aborts 3 0 ok)

  taking : (x : per.Answer AirPdu) → T (good l) → T (li_busy l.at) → P 0 (taken l x)
  unfolding taken
  taking (got a) ok b = passing (air_event a.kind) (data-well a.kind) ok b
  taking (refused n) ok b = k.aborts 2 0 ok

  confirming : (s : List ℕ) → P 0 (confirmed l s)
  unfolding confirmed
  confirming s =
      allowed-case (P 0) (good l) (li_is l.at LI-START) (taken l (read_pdu air_c s)) (k.stays 29 refl) (k.stays 2 refl)
      (λ g m. taking (read_pdu air_c s) g (busy-start l.at m))

  arriving : (s : List ℕ) → P 0 (arrived l s)
  unfolding arrived
  arriving s =
      pick-case (P 0) (good l)
      (λ g. pick-case (P 0) (li_is l.at LI-ACTIVE) (λ i. taking (read_pdu air_c s) (eq-T _ g) (busy-active l.at (eq-T _ i)))
      (λ i. pick-case (P 0) (li_is l.at LI-END) (λ j. k.late (eq-T _ g)) (λ j. k.stays 2 refl)))
      (λ g. k.stays 29 refl)

  finishing : P 0 (end_confirmed l)
  unfolding end_confirmed
  finishing = allowed-case (P 0) (good l) (li_is l.at LI-END) (over l) (k.stays 29 refl) (k.stays 2 refl) (λ g m. k.turns g m)

  -- accepted seconds of an elapse: none where it is refused
  elapsing : (n : ℕ) → P (pick (eqb (elapsed l n).said.refusal 0) n 0) (elapsed l n)
  unfolding elapsed waited aborted
  elapsing n =
      allowed-case (λ (a : Answer). P (pick (eqb a.said.refusal 0) n 0) a) (good l) (leb n 86400)
      (pick (below timers (not_due n l.left)) (waited l n) (aborted l 4)) (k.stays 29 refl) (k.stays 4 refl)
      (λ g m. pick-case (λ (a : Answer). P (pick (eqb a.said.refusal 0) n 0) a) (below timers (not_due n l.left))
      (λ d. k.waits n g (eq-T _ d)) (λ d. k.aborts 4 n g))

  none-asked : (a : Answer) → P 0 a → P (pick (eqb a.said.refusal 0) 0 0) a
  none-asked a p = pick_same (λ (n : ℕ). P n a) (eqb a.said.refusal 0) p

  pub every : (c : Made) → P (seconds ground l c) (reply l c)
  unfolding seconds answered user_aborted rejected failed air_aborted peer_aborted
  every c = go c.call c.octets
    where
      go : (c : Call) (s : List ℕ) → P (pick (eqb (answered l c s).said.refusal 0) (elapse_of c) 0) (answered l c s)
      go (Request g) s = none-asked (requested l g) (requesting g)
      go UserAbort s = none-asked (user_aborted l) (closing (not (li_is l.at LI-IDLE)) 1 ABORT-REQUEST 0 refl)
      go (Elapse n) s = elapsing n
      go StartConfirm s = none-asked (confirmed l s) (confirming s)
      go StartRejected s = none-asked (rejected l) (closing (li_is l.at LI-START) 2 ABORT-IND 5 refl)
      go Data s = none-asked (arrived l s) (arriving s)
      go EndConfirm s = none-asked (end_confirmed l) finishing
      go PeerAbort s = none-asked (peer_aborted l) (closing (not (li_is l.at LI-IDLE)) 2 PEER-ABORT-IND 0 refl)
      go AirAbort s = none-asked (air_aborted l s) (closing (not (li_is l.at LI-IDLE)) 2 ABORT-IND (reason_of (read_pdu air_c s)) refl)
      go Down s = none-asked (failed l) (closing (not (li_is l.at LI-IDLE)) 2 ABORT-IND 0 refl)
