-- Every answer of the ground sends what fits, and shows no abort for reason 2, where what it heard fits. Assumes nothing.
use mathlib.Core.Path.{◌≡◌, refl, sym, ap, ◌∙◌}
use mathlib.Core.Bool.{Bool, true, false, not}
use mathlib.Core.List.{List, [], ◌∷◌}
use Prim.Native.Nat.{ℕ, ◌≤◌}
use lib.Dec.{eqb, leb}
use lib.ListN.{length, take}
use Rattle.text.specs.Text.{pick}
use Rattle.per.specs.Pdu as per
use Rattle.per.specs.Pdu.{got, refused, read_pdu, encode}
use Rattle.pdu.specs.declared.uplink.Ground.{Ground}
use Rattle.pdu.specs.declared.uplink.Ground.TheVariants.{CancelAll, CancelEmergencyAck, Abort}
use Rattle.pdu.specs.UplinkTable.{ground_c}
use Rattle.pdu.specs.declared.downlink.AirPdu.{AirPdu}
use Rattle.pdu.specs.DownlinkTable.{air_c}
use Rattle.link.specs.Tests.{below}
use Rattle.link.specs.Names.{timers}
use Rattle.link.specs.Acts.{acts, pushed_all, one}
use Rattle.link.specs.declared.acts.Acts.{Acts}
use Rattle.link.specs.Clock.{not_due, stops_of}
use Rattle.link.specs.Step.{acts_of, performed, begun, added, stopped}
use Rattle.link.specs.Watch.{idle, li_is}
use Rattle.link.specs.Moves.{does_go}
use borrow.Author.Tests.{not-true}
use Rattle.link.proofs.Laws.{no_true, eq-T, pick-case, allowed-case, pushed-append}
use Rattle.ground_tables.specs.Moves.{li_end, li_over}
use Rattle.ground_answer.specs.Record.{good, move_at, turned, went}
use Rattle.ground_answer.specs.declared.record.Link.{Link}
use Rattle.ground_answer.specs.Events.{cancel_all, request_event, asks_for, air_event}
use Rattle.ground_answer.specs.Sent.{sent, outgoing}
use Rattle.ground_answer.specs.Answers.{refusal}
use Rattle.ground_answer.specs.Aborts.{aborted, closed, closed_when}
use Rattle.ground_answer.specs.Clock.{waited, elapsed}
use Rattle.ground_answer.specs.declared.answer.Answer.{Answer}
use Rattle.ground.specs.Requests.{asked, cancelled, all_cancelled, requested, user_aborted}
use Rattle.ground.specs.Arrivals.{ack_of, ended, passed, taken, confirmed, late_data, arrived}
use Rattle.ground.specs.Endings.{rejected, failed, reason_of, air_aborted, peer_aborted, over, end_confirmed}
use Rattle.ground.specs.Runs.{answered}
use Rattle.ground.specs.declared.call.Call.{Call}
use Rattle.ground.specs.declared.call.Call.TheVariants.{Request, UserAbort, Elapse, StartConfirm, StartRejected, Data, EndConfirm, PeerAbort, AirAbort, Down}
use Rattle.air_answer.specs.Events.{uplink_event, may_come, reason_in}
use Rattle.script.specs.Entries.{goes}
use Rattle.sending.specs.Ways.{kind_of}
use Rattle.flight_promises.specs.Fitting.{up_reads, up_fits, down_reads}
use Rattle.flight_promises.proofs.Goings.{Sends, nothing, after, goes_one, goes-if, stops-stay, move-goes}
use Rattle.flight_promises.proofs.GroundAsks.{data-may, start-may}
use Rattle.flight_promises.proofs.Cleans.{Clean, no_octets, clean, clean-none, clean-abort, clean_close, shown, peer-shown}
use Rattle.flight_promises.proofs.GroundReads.{up-short, up_goes, starts-well, data-well, ends-well, aborts-well, sent_is, goes-out, no-refusal, may-cancel, may-ack, may-abort}

-- an answer that shows no abort for 2, and sends what fits
abbrev pub CleanAnswer : Answer → Type 0
CleanAnswer a = Clean up_goes a.said.reason a.said.acts (take a.said.sent.n a.said.sent.octets)

-- with the octets that stand in it
stands : {reason : ℕ} {a : Acts} {s : List ℕ} → Clean up_goes reason a s → Clean up_goes reason a (take (sent s).n (sent s).octets)
stands {s = s} k = rw (sent_is s) k

stays-clean : (l : Link) (n : ℕ) → CleanAnswer (refusal l n)
stays-clean l n = stands (clean-none up_goes)

-- an abort of the ground's own, for another reason than 2
aborts-clean : (l : Link) (n : ℕ) → leb n 7 ≡ true → eqb n 2 ≡ false → CleanAnswer (aborted l n)
unfolding aborted up_reads reason_in
aborts-clean l n m r =
    let h = may-abort n m in
    rw (goes-out (Abort n) h)
    (stands (clean-abort up_goes l.left _ n r (up-short (Abort n)) (aborts-well (Abort n) h (rw r))))

-- everything stops, with one entry
closes-clean : (l : Link) (entry reason : ℕ) → eqb reason 2 ≡ false → Sends up_goes (entry ∷ []) [] [] → CleanAnswer (closed l entry reason)
unfolding closed
closes-clean l entry reason r g = stands (clean_close up_goes l.left entry reason r g)

when-clean : (l : Link) (may : Bool) (number entry reason : ℕ) → eqb reason 2 ≡ false → Sends up_goes (entry ∷ []) [] [] → CleanAnswer (closed_when l may number entry reason)
unfolding closed_when
when-clean l may number entry reason r g =
    allowed-case CleanAnswer (good l) may (closed l entry reason) (stays-clean l 29) (stays-clean l number) (λ a b. closes-clean l entry reason r g)

cancels-clean : (l : Link) → CleanAnswer (cancelled l)
unfolding cancelled stopped performed pushed_all acts_of up_reads
cancels-clean l =
    let s = encode ground_c CancelAll in
    rw (goes-out CancelAll may-cancel)
    (stands
    (clean up_goes refl (up-short CancelAll) (sym (pushed-append (acts []) (stops_of timers l.left) (acts_of li_end 3)))
    (after up_goes (stops-stay up_goes timers l.left s) (move-goes up_goes li_end 3 s [] (goes_one up_goes 3 s refl (ends-well CancelAll may-cancel refl))))))

-- what a move says
went-acts : (l : Link) (k e n entry : ℕ) → (went l k e n entry).acts ≡ pushed_all (acts []) (acts_of (move_at l k e) entry)
unfolding went turned performed begun pushed_all acts_of
went-acts l k e n entry = refl

-- a request
asks-clean : (l : Link) (g : Ground) (li entry : ℕ) → goes entry ≡ true
    → (ground_c.chk g ≡ 0 → does_go (move_at l li (request_event g)) ≡ true → up_goes entry (encode ground_c g) ≡ true) → CleanAnswer (asked l g li entry)
unfolding asked
asks-clean l g li entry e f =
    pick-case CleanAnswer (does_go (move_at l li (request_event g)))
    (λ m. pick-case CleanAnswer (eqb (outgoing g).refusal 0)
    (λ r. let h = no-refusal g r in let s = encode ground_c g in let v = move_at l li (request_event g) in
    rw (goes-out g h)
    (stands
    (clean up_goes refl (up-short g) (went-acts l li (request_event g) (asks_for g) entry) (move-goes up_goes v entry s _ (goes-if up_goes v.send entry s e (f h m))))))
    (λ r. stays-clean l (outgoing g).refusal))
    (λ m. stays-clean l 1)

requests-clean : (l : Link) (g : Ground) → CleanAnswer (requested l g)
unfolding requested all_cancelled up_reads
requests-clean l g =
    pick-case CleanAnswer (eqb (request_event g) cancel_all)
    (λ e. allowed-case CleanAnswer (good l) (li_is l.at 2) (cancelled l) (stays-clean l 29) (stays-clean l 1) (λ a b. cancels-clean l))
    (λ e. pick-case CleanAnswer (good l)
    (λ ok. pick-case CleanAnswer (li_is l.at 0)
    (λ i. asks-clean l g 1 1 refl (λ h m. starts-well g h (start-may l (eq-T _ ok) (eq-T _ i) g m)))
    (λ i. pick-case CleanAnswer (li_is l.at 2) (λ j. asks-clean l g 2 2 refl (λ h m. data-well g h (data-may l g m))) (λ j. stays-clean l 1)))
    (λ bad. stays-clean l 29))

-- data, which may be answered by an ack and by an end request
ack_octets : Bool → List ℕ
ack_octets b = pick b (encode ground_c CancelEmergencyAck) []

ack-by : (b : Bool) → pick b (outgoing CancelEmergencyAck).sent (sent []) ≡ sent (ack_octets b)
unfolding ack_octets
ack-by true = goes-out CancelEmergencyAck may-ack
ack-by false = refl

ack-short : (b : Bool) → length (ack_octets b) ≤ 115
unfolding ack_octets
ack-short true = up-short CancelEmergencyAck
ack-short false = no_octets

ack-goes : (b : Bool) → Sends up_goes (one b 2) (ack_octets b) []
unfolding ack_octets up_reads uplink_event may_come
ack-goes true = goes_one up_goes 2 _ refl (data-well CancelEmergencyAck may-ack refl)
ack-goes false = nothing up_goes []

end-alone : up_goes 3 [] ≡ true
unfolding up_goes up_fits kind_of
end-alone = refl

passes-clean : (l : Link) (e : ℕ) → CleanAnswer (passed l e)
unfolding passed ended ack_of performed pushed_all acts_of
passes-clean l e =
    let m = move_at l 2 e in
    let g = move-goes up_goes m 2 (ack_octets m.send) [] (ack-goes m.send) in
    pick-case CleanAnswer (does_go m)
    (λ f. rw (ack-by m.send)
    (pick-case CleanAnswer (idle (went l 2 e 0 2).at)
    (λ i. stands
    (clean up_goes refl (ack-short m.send)
    (ap (λ (a : Acts). pushed_all a (acts_of li_end 3)) (went-acts l 2 e 0 2) ∙ sym (pushed-append (acts []) (acts_of m 2) (acts_of li_end 3)))
    (after up_goes g (move-goes up_goes li_end 3 [] [] (goes_one up_goes 3 [] refl end-alone)))))
    (λ i. stands (clean up_goes refl (ack-short m.send) (went-acts l 2 e 0 2) g))))
    (λ f. aborts-clean l 3 refl refl)

-- what comes with a call fits it
unfoldable pub heard_well : Call → List ℕ → Bool
heard_well (Request g) s = true
heard_well UserAbort s = true
heard_well (Elapse n) s = true
heard_well StartConfirm s = down_reads 1 (read_pdu air_c s)
heard_well StartRejected s = true
heard_well Data s = down_reads 2 (read_pdu air_c s)
heard_well EndConfirm s = true
heard_well PeerAbort s = true
heard_well AirAbort s = not (eqb (reason_of (read_pdu air_c s)) 2)
heard_well Down s = true

takes-clean : (l : Link) (kind : ℕ) (x : per.Answer AirPdu) → down_reads kind x ≡ true → CleanAnswer (taken l x)
unfolding taken down_reads
takes-clean l kind (got a) h = passes-clean l (air_event a.kind)
takes-clean l kind (refused n) h = absurd (no_true (sym h))

late-goes : Sends up_goes (8 ∷ []) [] []
late-goes = record { pass = refl; left = refl }

late-clean : (l : Link) → CleanAnswer (late_data l)
unfolding late_data added begun pushed_all
late-clean l = stands (clean up_goes refl no_octets refl late-goes)

over-clean : (l : Link) → CleanAnswer (over l)
unfolding over performed begun pushed_all acts_of
over-clean l = stands (clean up_goes refl no_octets refl (move-goes up_goes li_over 0 [] [] (nothing up_goes [])))

waits-clean : (l : Link) (n : ℕ) → CleanAnswer (waited l n)
unfolding waited begun
waits-clean l n = stands (clean-none up_goes)

user-aborts : Sends up_goes (4 ∷ []) [] []
unfolding up_goes up_fits kind_of
user-aborts = record { pass = refl; left = refl }

-- every answer
pub ground-clean : (l : Link) (c : Call) (s : List ℕ) → heard_well c s ≡ true → CleanAnswer (answered l c s)
unfolding answered heard_well user_aborted elapsed confirmed rejected arrived end_confirmed peer_aborted air_aborted failed
ground-clean l (Request g) s h = requests-clean l g
ground-clean l UserAbort s h = when-clean l (not (li_is l.at 0)) 1 4 0 refl user-aborts
ground-clean l (Elapse n) s h =
    allowed-case CleanAnswer (good l) (leb n 86400) _ (stays-clean l 29) (stays-clean l 4)
    (λ a b. pick-case CleanAnswer (below timers (not_due n l.left)) (λ d. waits-clean l n) (λ d. aborts-clean l 4 refl refl))
ground-clean l StartConfirm s h =
    allowed-case CleanAnswer (good l) (li_is l.at 1) _ (stays-clean l 29) (stays-clean l 2) (λ a b. takes-clean l 1 (read_pdu air_c s) h)
ground-clean l StartRejected s h = when-clean l (li_is l.at 1) 2 6 5 refl (shown up_goes)
ground-clean l Data s h =
    pick-case CleanAnswer (good l)
    (λ g. pick-case CleanAnswer (li_is l.at 2) (λ i. takes-clean l 2 (read_pdu air_c s) h)
    (λ i. pick-case CleanAnswer (li_is l.at 3) (λ j. late-clean l) (λ j. stays-clean l 2)))
    (λ g. stays-clean l 29)
ground-clean l EndConfirm s h = allowed-case CleanAnswer (good l) (li_is l.at 3) (over l) (stays-clean l 29) (stays-clean l 2) (λ a b. over-clean l)
ground-clean l PeerAbort s h = when-clean l (not (li_is l.at 0)) 2 7 0 refl (peer-shown up_goes)
ground-clean l AirAbort s h = when-clean l (not (li_is l.at 0)) 2 6 (reason_of (read_pdu air_c s)) (not-true _ h) (shown up_goes)
ground-clean l Down s h = when-clean l (not (li_is l.at 0)) 2 6 0 refl (shown up_goes)
