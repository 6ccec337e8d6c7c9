-- Every answer is of one of six kinds; what holds of each kind holds of every answer to every call. Assumes nothing.
use mathlib.Core.Path.{◌≡◌, refl}
use mathlib.Core.Bool.{Bool, true, false, not}
use mathlib.Core.List.{List}
use Prim.Native.Nat.{ℕ}
use lib.Dec.{T, leb, eqb, eqb→eq}
use lib.ListN.{length}
use Rattle.per.specs.Pdu as per
use Rattle.per.specs.Pdu.{read_pdu, got, refused}
use Rattle.pdu.specs.declared.uplink.Ground.{Ground}
use Rattle.pdu.specs.UplinkTable.{ground_tag, ground_c}
use Rattle.pdu.specs.declared.downlink.AirPdu.{AirPdu}
use Rattle.pdu_parts.specs.declared.lists.Listed.{Listed}
use Rattle.link.specs.Tests.{both, pick, below}
use Rattle.link.specs.Names.{timers, DATA-REQUEST, ABORT-REQUEST, ABORT-IND, PEER-ABORT-IND}
use Rattle.link.specs.Watch.{li_is}
use Rattle.link.specs.Clock.{not_due}
use Rattle.link.specs.Moves.{does_go}
use Rattle.link.proofs.Laws.{both_left, eq-T, pick-case, pick_same, allowed-case}
use Rattle.sides.specs.Runs.{seconds}
use Rattle.air_tables.specs.Names.{LI-IDLE, LI-START, LI-ACTIVE}
use Rattle.air_tables.specs.Tables.{li_busy}
use Rattle.air_answer.specs.Record.{good, played, move_at, went_parts}
use Rattle.air_answer.specs.declared.record.AirLink.{AirLink}
use Rattle.air_answer.specs.Events.{request_event, opens, uplink_event, may_come}
use Rattle.air_answer.specs.Sent.{outgoing}
use Rattle.air_answer.specs.declared.sent.Sent.{Sent}
use Rattle.air_answer.specs.Answers.{START-RESPONSE, refusal, tells}
use Rattle.air_answer.specs.Aborts.{aborted, closed, closed_when}
use Rattle.air_answer.specs.Clock.{waited, elapsed}
use Rattle.air_answer.specs.declared.answer.Answer.{Answer}
use Rattle.air.specs.Requests.{asked, requested, user_aborted}
use Rattle.air.specs.Arrivals.{ack_of, passed, taken, indicated, arrived, ended, all_cancelled, end_indicated}
use Rattle.air.specs.Endings.{failed, reason_of, ground_aborted, peer_aborted}
use Rattle.air.specs.Runs.{answered, Made, reply, elapse_of, air_side}
use Rattle.air.specs.declared.call.Call.{Call}
use Rattle.air.specs.declared.call.Call.TheVariants.{Request, UserAbort, Elapse, StartInd, Data, EndInd, PeerAbort, GroundAbort, Down}

-- LI goes to k first: from IDLE to START, from START or ACTIVE to ACTIVE
pub data Way (at : List ℕ) : ℕ → Type 0 where
  starts : T (li_is at LI-IDLE) → Way at LI-START
  stays_open : T (li_busy at) → Way at LI-ACTIVE

-- P holds of the accepted seconds and the answer of each kind
pub record Kinds (l : AirLink) (P : ℕ → Answer → Type 0) : Type 0 where
  pub stays : (n : ℕ) → eqb n 0 ≡ false → P 0 (refusal l n)
  pub aborts : (n s : ℕ) → T (good l) → P s (aborted l n)
  pub closes : (entry reason : ℕ) → T (good l) → P 0 (closed l entry reason)
  pub goes : (k e entry : ℕ) (s : Sent) → T (good l) → Way l.at k → does_go (move_at l k e) ≡ true
      → P 0 (tells l (played l (went_parts l k e entry)) 0 s)
  pub ends : (told : Bool) (s : Sent) → T (good l) → T (li_is l.at LI-ACTIVE) → P 0 (ended l told s)
  pub waits : (n : ℕ) → T (good l) → T (below timers (not_due n l.left)) → P n (waited l n)

-- LI is not IDLE where it is in START or ACTIVE
busy-at : (at : List ℕ) (k : ℕ) → eqb k LI-IDLE ≡ false → T (li_is at k) → T (li_busy at)
unfolding li_busy
busy-at at k h t = rw (eqb→eq _ k t, h) tt

module _ (l : AirLink) (P : ℕ → Answer → Type 0) (k : Kinds l P) where
  closing : (may : Bool) (number entry reason : ℕ) → eqb number 0 ≡ false → P 0 (closed_when l may number entry reason)
  unfolding closed_when
  closing may number entry reason h = allowed-case (P 0) (good l) may (closed l entry reason) (k.stays 29 refl) (k.stays number h) (λ g m. k.closes entry reason g)

  asking : (a : AirPdu) (entry : ℕ) → T (li_busy l.at) → T (good l) → P 0 (asked l a entry)
  unfolding asked
  asking a entry b ok =
      pick-case (P 0) (does_go (move_at l LI-ACTIVE (request_event a.kind)))
      (λ f. pick-case (P 0) (eqb (outgoing a).refusal 0) (λ r. k.goes LI-ACTIVE (request_event a.kind) entry (outgoing a).sent ok (stays_open b) f) (λ r. k.stays (outgoing a).refusal r))
      (λ f. k.stays 1 refl)

  requesting : (a : AirPdu) → P 0 (requested l a)
  unfolding requested
  requesting a =
      pick-case (P 0) (good l)
      (λ g. pick-case (P 0) (li_is l.at LI-ACTIVE) (λ i. asking a DATA-REQUEST (busy-at l.at LI-ACTIVE refl (eq-T _ i)) (eq-T _ g))
      (λ i. pick-case (P 0) (both (li_is l.at LI-START) (opens a.kind))
      (λ j. asking a START-RESPONSE (busy-at l.at LI-START refl (both_left (li_is l.at LI-START) (opens a.kind) (eq-T _ j))) (eq-T _ g)) (λ j. k.stays 1 refl)))
      (λ g. k.stays 29 refl)

  taking : (i : ℕ) (x : per.Answer Ground) → T (good l) → Way l.at i → P 0 (taken l i x)
  unfolding taken passed
  taking i (got g) ok w =
      pick-case (P 0) (may_come i (uplink_event g))
      (λ m. pick-case (P 0) (does_go (move_at l i (uplink_event g))) (λ f. k.goes i (uplink_event g) DATA-REQUEST (ack_of (move_at l i (uplink_event g))) ok w f) (λ f. k.aborts 3 0 ok))
      (λ m. k.aborts 2 0 ok)
  taking i (refused n) ok w = k.aborts 2 0 ok

  indicating : (s : List ℕ) → P 0 (indicated l s)
  unfolding indicated
  indicating s =
      allowed-case (P 0) (good l) (li_is l.at LI-IDLE) (taken l LI-START (read_pdu ground_c s)) (k.stays 29 refl) (k.stays 2 refl)
      (λ g m. taking LI-START (read_pdu ground_c s) g (starts m))

  arriving : (s : List ℕ) → P 0 (arrived l s)
  unfolding arrived
  arriving s =
      allowed-case (P 0) (good l) (li_is l.at LI-ACTIVE) (taken l LI-ACTIVE (read_pdu ground_c s)) (k.stays 29 refl) (k.stays 2 refl)
      (λ g m. taking LI-ACTIVE (read_pdu ground_c s) g (stays_open (busy-at l.at LI-ACTIVE refl m)))

  all-cancelling : (x : per.Answer Ground) → T (good l) → T (li_is l.at LI-ACTIVE) → P 0 (all_cancelled l x)
  unfolding all_cancelled
  all-cancelling (got g) ok m = pick-case (P 0) (eqb (ground_tag g) 0) (λ e. k.ends true _ ok m) (λ e. k.aborts 2 0 ok)
  all-cancelling (refused n) ok m = k.aborts 2 0 ok

  ending : (s : List ℕ) → P 0 (end_indicated l s)
  unfolding end_indicated
  ending s =
      allowed-case (P 0) (good l) (li_is l.at LI-ACTIVE) _ (k.stays 29 refl) (k.stays 2 refl)
      (λ g m. pick-case (P 0) (eqb (length s) 0) (λ e. k.ends false _ g m) (λ e. all-cancelling (read_pdu ground_c s) g m))

  -- accepted seconds of an elapse: none where it is refused
  elapsing : (n : ℕ) → P (pick (eqb (elapsed l n).said.refusal 0) n 0) (elapsed l n)
  unfolding elapsed waited aborted
  elapsing n =
      allowed-case (λ (a : Answer). P (pick (eqb a.said.refusal 0) n 0) a) (good l) (leb n 86400)
      (pick (below timers (not_due n l.left)) (waited l n) (aborted l 4)) (k.stays 29 refl) (k.stays 4 refl)
      (λ g m. pick-case (λ (a : Answer). P (pick (eqb a.said.refusal 0) n 0) a) (below timers (not_due n l.left))
      (λ d. k.waits n g (eq-T _ d)) (λ d. k.aborts 4 n g))

  none-asked : (a : Answer) → P 0 a → P (pick (eqb a.said.refusal 0) 0 0) a
  none-asked a p = pick_same (λ (n : ℕ). P n a) (eqb a.said.refusal 0) p

  pub every : (c : Made) → P (seconds air_side l c) (reply l c)
  unfolding seconds answered user_aborted failed ground_aborted peer_aborted
  every c = go c.call c.list c.octets
    where
      go : (c : Call) (list : Listed) (s : List ℕ) → P (pick (eqb (answered l c list s).said.refusal 0) (elapse_of c) 0) (answered l c list s)
      go (Request kind) list s = none-asked _ (requesting (record { kind = kind; list = list }))
      go UserAbort list s = none-asked _ (closing (not (li_is l.at LI-IDLE)) 1 ABORT-REQUEST 0 refl)
      go (Elapse n) list s = elapsing n
      go StartInd list s = none-asked _ (indicating s)
      go Data list s = none-asked _ (arriving s)
      go EndInd list s = none-asked _ (ending s)
      go PeerAbort list s = none-asked _ (closing (not (li_is l.at LI-IDLE)) 2 PEER-ABORT-IND 0 refl)
      go GroundAbort list s = none-asked _ (closing (not (li_is l.at LI-IDLE)) 2 ABORT-IND (reason_of (read_pdu ground_c s)) refl)
      go Down list s = none-asked _ (closing (not (li_is l.at LI-IDLE)) 2 ABORT-IND 0 refl)
