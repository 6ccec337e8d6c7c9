-- "A cancel in EC-A-ACTIVE or PC-A-ACTIVE gives the indication, then sends the positive ack, then goes IDLE." (02, L4.) Assumes nothing.
use mathlib.Core.Path.{◌≡◌, refl, sym, subst, ap, ◌∙◌}
use mathlib.Core.List.{List, [], ◌∷◌}
use Prim.Native.Nat.{ℕ, ◌<◌}
use native.Mathlib.Omega.{arith}
use lib.Dec.{T, lit<}
use lib.ListN.{length, get_or, set, length-set}
use lib.Seq.{get_or-set_same, get_or-set_other}
use Rattle.per.specs.Pdu.{read_pdu, got}
use Rattle.pdu.specs.declared.uplink.Ground.TheVariants.{CancelContract}
use Rattle.pdu.specs.declared.downlink.Air.TheVariants.{Positive}
use Rattle.pdu.specs.UplinkTable.{ground_c}
use Rattle.pdu.specs.DownlinkTable.{bare_air}
use Rattle.link.specs.Names.{EC, PC, LI, IDLE, DATA-REQUEST, IND}
use Rattle.link.specs.Moves.{to, ind, send, li_to}
use Rattle.link.specs.Acts.{acts, pushed, pushed_all}
use Rattle.link.specs.Watch.{li_is}
use Rattle.link.specs.Step.{acts_of, performed, begun}
use Rattle.link.proofs.Laws.{T-eq}
use Rattle.sides.specs.Tables.{move_of}
use Rattle.air_tables.specs.Names.{ACTIVE, LI-ACTIVE}
use Rattle.air_tables.specs.Moves.{air_rows, dc_rows, contract_rows, em_rows}
use Rattle.air_tables.specs.Tables.{air_tables}
use Rattle.air_answer.specs.Record.{good, followed, part, played, move_at}
use Rattle.air_answer.specs.declared.record.AirLink.{AirLink}
use Rattle.air_answer.specs.Events.{uplink_event, cancel_event, may_come}
use Rattle.air_answer.specs.Sent.{sent, outgoing}
use Rattle.air_answer.specs.declared.sent.Sent.{Sent}
use Rattle.air_answer.specs.Answers.{tells}
use Rattle.air_answer.specs.declared.answer.Answer.{Answer}
use Rattle.air_answer.proofs.Own.{own}
use Rattle.air.specs.Arrivals.{ack_of, passed, taken, arrived}

-- the indication and the ack in this order, the octets of the ack, the module's state
pub record Cancelled (who : ℕ) (octets : List ℕ) (a : Answer) : Type 0 where
  pub actions : a.said.acts ≡ acts (IND ∷ DATA-REQUEST ∷ [])
  pub goes : a.said.sent ≡ sent octets
  pub ends : get_or a.link.at who 0 ≡ IDLE

-- the state of EC and PC is not LI's
event-move : (l : AirLink) → get_or l.at EC 0 ≡ ACTIVE → move_at l LI-ACTIVE 21 ≡ ind (send (to EC IDLE))
unfolding move_at move_of air_tables air_rows dc_rows contract_rows em_rows
event-move l e = rw (get_or-set_other l.at LI EC LI-ACTIVE 0 (λ q. omega arith) ∙ e)

periodic-move : (l : AirLink) → get_or l.at PC 0 ≡ ACTIVE → move_at l LI-ACTIVE 37 ≡ ind (send (to PC IDLE))
unfolding move_at move_of air_tables air_rows dc_rows contract_rows em_rows
periodic-move l e = rw (get_or-set_other l.at LI PC LI-ACTIVE 0 (λ q. omega arith) ∙ e)

module _ (l : AirLink) (ok : T (good l)) (five : length l.at ≡ 5) (active : T (li_is l.at LI-ACTIVE)) (s : List ℕ) where
  -- what the two moves of such a call make
  abbrev over : ℕ → Sent → Answer
  over who octets = tells l (played l (part l (li_to LI-ACTIVE) 0 ∷ part l (ind (send (to who IDLE))) DATA-REQUEST ∷ [])) 0 octets

  over-so : (who : ℕ) (x : Sent) (octets : List ℕ) → x ≡ sent octets → get_or (set (set l.at LI LI-ACTIVE) who IDLE) who 0 ≡ IDLE → Cancelled who octets (over who x)
  unfolding followed played performed begun acts_of acts pushed pushed_all
  over-so who x octets e q = record { actions = refl; goes = e; ends = q }

  event-answer : get_or l.at EC 0 ≡ ACTIVE → read_pdu ground_c s ≡ got (CancelContract 0) → arrived l s ≡ over EC (outgoing (bare_air (Positive 3))).sent
  unfolding arrived taken passed ack_of uplink_event cancel_event may_come
  event-answer e r = rw (T-eq (good l) ok, T-eq (li_is l.at LI-ACTIVE) active, r, event-move l e)

  periodic-answer : get_or l.at PC 0 ≡ ACTIVE → read_pdu ground_c s ≡ got (CancelContract 1) → arrived l s ≡ over PC (outgoing (bare_air (Positive 4))).sent
  unfolding arrived taken passed ack_of uplink_event cancel_event may_come
  periodic-answer e r = rw (T-eq (good l) ok, T-eq (li_is l.at LI-ACTIVE) active, r, periodic-move l e)

  gone : (who : ℕ) → who < 5 → get_or (set (set l.at LI LI-ACTIVE) who IDLE) who 0 ≡ IDLE
  gone who h = get_or-set_same (set l.at LI LI-ACTIVE) who IDLE 0 (omega (arith, length-set l.at LI LI-ACTIVE))

  pub event-cancelled : get_or l.at EC 0 ≡ ACTIVE → read_pdu ground_c s ≡ got (CancelContract 0) → Cancelled EC (57 ∷ 128 ∷ []) (arrived l s)
  event-cancelled e r =
      subst (Cancelled EC (57 ∷ 128 ∷ [])) (sym (event-answer e r))
      (over-so EC (outgoing (bare_air (Positive 3))).sent (57 ∷ 128 ∷ []) (ap (λ (x : List Sent). get_or x 0 (sent [])) own) (gone EC (lit< tt)))

  pub periodic-cancelled : get_or l.at PC 0 ≡ ACTIVE → read_pdu ground_c s ≡ got (CancelContract 1) → Cancelled PC (58 ∷ 0 ∷ []) (arrived l s)
  periodic-cancelled e r =
      subst (Cancelled PC (58 ∷ 0 ∷ [])) (sym (periodic-answer e r))
      (over-so PC (outgoing (bare_air (Positive 4))).sent (58 ∷ 0 ∷ []) (ap (λ (x : List Sent). get_or x 1 (sent [])) own) (gone PC (lit< tt)))
