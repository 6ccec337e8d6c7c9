-- Every answer of the aircraft sends what fits, and shows no abort for reason 2, where what it heard fits. Assumes nothing.
use mathlib.Core.Path.{◌≡◌, refl, sym}
use mathlib.Core.Bool.{Bool, true, false, not}
use mathlib.Core.List.{List, [], ◌∷◌, ◌++◌}
use Prim.Native.Nat.{ℕ, ◌≤◌}
use lib.Dec.{eqb, leb}
use lib.ListN.{length, take, get_or}
use Rattle.text.specs.Text.{pick, both}
use Rattle.per.specs.Pdu as per
use Rattle.per.specs.Pdu.{got, refused, read_pdu, encode}
use Rattle.pdu.specs.declared.uplink.Ground.{Ground}
use Rattle.pdu.specs.UplinkTable.{ground_c}
use Rattle.pdu.specs.declared.downlink.Air.TheVariants.{Positive, Abort}
use Rattle.pdu.specs.declared.downlink.AirPdu.{AirPdu}
use Rattle.pdu.specs.DownlinkTable.{bare_air, air_c}
use Rattle.pdu_parts.specs.declared.lists.Listed.{Listed}
use Rattle.link.specs.Tests.{below}
use Rattle.link.specs.Names.{timers, EC}
use Rattle.link.specs.Acts.{acts, pushed_all, one}
use Rattle.link.specs.declared.acts.Acts.{Acts}
use Rattle.link.specs.Clock.{not_due}
use Rattle.link.specs.Moves.{to, stop, does_go}
use Rattle.link.specs.Step.{acts_of, performed, begun}
use Rattle.link.specs.Watch.{li_is}
use borrow.Author.Tests.{not-true}
use Rattle.link.proofs.Laws.{no_true, pick-case, allowed-case, pushed-append}
use Rattle.air_tables.specs.Moves.{li_answer, em3_at, halts}
use Rattle.air_answer.specs.Record.{good, played, move_at, went_parts}
use Rattle.air_answer.specs.declared.record.AirLink.{AirLink}
use Rattle.air_answer.specs.Events.{request_event, opens, uplink_event, may_come}
use Rattle.air_answer.specs.Sent.{sent, outgoing}
use Rattle.air_answer.specs.Answers.{refusal}
use Rattle.air_answer.specs.Aborts.{aborted, closed, closed_when}
use Rattle.air_answer.specs.Clock.{waited, elapsed}
use Rattle.air_answer.specs.declared.answer.Answer.{Answer}
use Rattle.air.specs.Requests.{asked, requested, user_aborted}
use Rattle.air.specs.Arrivals.{ack_of, passed, taken, indicated, arrived, end_parts, ended, all_cancelled, end_indicated}
use Rattle.air.specs.Endings.{failed, reason_of, ground_aborted, peer_aborted}
use Rattle.air.specs.Runs.{answered}
use Rattle.air.specs.declared.call.Call.{Call}
use Rattle.air.specs.declared.call.Call.TheVariants.{Request, UserAbort, Elapse, StartInd, Data, EndInd, PeerAbort, GroundAbort, Down}
use Rattle.script.specs.Entries.{goes}
use Rattle.sending.specs.Ways.{kind_of}
use Rattle.flight_promises.specs.Fitting.{up_reads, down_fits}
use Rattle.flight_promises.proofs.Goings.{Sends, nothing, after, goes_one, goes-if, move-goes}
use Rattle.flight_promises.proofs.Cleans.{Clean, no_octets, clean, clean-none, clean-abort, clean_close, shown, peer-shown}
use Rattle.flight_promises.proofs.AirReads.{down-short, down_goes, starts-well, data-well, ends-well, aborts-well, sent_is, goes-out, no-refusal, may-ack, may-abort}

-- an answer that shows no abort for 2, and sends what fits
abbrev pub CleanAnswer : Answer → Type 0
CleanAnswer a = Clean down_goes a.said.reason a.said.acts (take a.said.sent.n a.said.sent.octets)

-- with the octets that stand in it
stands : {reason : ℕ} {a : Acts} {s : List ℕ} → Clean down_goes reason a s → Clean down_goes reason a (take (sent s).n (sent s).octets)
stands {s = s} k = rw (sent_is s) k

stays-clean : (l : AirLink) (n : ℕ) → CleanAnswer (refusal l n)
stays-clean l n = stands (clean-none down_goes)

-- an abort of the aircraft's own, for another reason than 2
aborts-clean : (l : AirLink) (n : ℕ) → leb n 7 ≡ true → eqb n 2 ≡ false → CleanAnswer (aborted l n)
unfolding aborted
aborts-clean l n m r =
    let a = bare_air (Abort n) in
    let h = may-abort n m in
    rw (goes-out a h) (stands (clean-abort down_goes l.left _ n r (down-short a) (aborts-well n h r)))

-- everything stops, with one entry
closes-clean : (l : AirLink) (entry reason : ℕ) → eqb reason 2 ≡ false → Sends down_goes (entry ∷ []) [] [] → CleanAnswer (closed l entry reason)
unfolding closed
closes-clean l entry reason r g = stands (clean_close down_goes l.left entry reason r g)

when-clean : (l : AirLink) (may : Bool) (number entry reason : ℕ) → eqb reason 2 ≡ false → Sends down_goes (entry ∷ []) [] [] → CleanAnswer (closed_when l may number entry reason)
unfolding closed_when
when-clean l may number entry reason r g =
    allowed-case CleanAnswer (good l) may (closed l entry reason) (stays-clean l 29) (stays-clean l number) (λ a b. closes-clean l entry reason r g)

-- what a move says
went-acts : (l : AirLink) (k e entry : ℕ) → (played l (went_parts l k e entry)).acts ≡ pushed_all (acts []) (acts_of (move_at l k e) entry)
unfolding played performed begun pushed_all acts_of
went-acts l k e entry = refl

-- a request
asks-clean : (l : AirLink) (a : AirPdu) (entry : ℕ) → goes entry ≡ true → (air_c.chk a ≡ 0 → down_goes entry (encode air_c a) ≡ true) → CleanAnswer (asked l a entry)
unfolding asked
asks-clean l a entry e f =
    pick-case CleanAnswer (does_go (move_at l 2 (request_event a.kind)))
    (λ m. pick-case CleanAnswer (eqb (outgoing a).refusal 0)
    (λ r. let h = no-refusal a r in let s = encode air_c a in let v = move_at l 2 (request_event a.kind) in
    rw (goes-out a h)
    (stands
    (clean down_goes refl (down-short a) (went-acts l 2 (request_event a.kind) entry) (move-goes down_goes v entry s _ (goes-if down_goes v.send entry s e (f h))))))
    (λ r. stays-clean l (outgoing a).refusal))
    (λ m. stays-clean l 1)

requests-clean : (l : AirLink) (a : AirPdu) → CleanAnswer (requested l a)
unfolding requested
requests-clean l a =
    pick-case CleanAnswer (good l)
    (λ ok. pick-case CleanAnswer (li_is l.at 2) (λ i. asks-clean l a 2 refl (data-well a))
    (λ i. pick-case CleanAnswer (both (li_is l.at 1) (opens a.kind)) (λ j. asks-clean l a 1 refl (starts-well a)) (λ j. stays-clean l 1)))
    (λ bad. stays-clean l 29)

-- data, of which a cancel is answered by an ack
abbrev ack : Bool → AirPdu
ack who = bare_air (Positive (pick who 3 4))

ack-may : (who : Bool) → air_c.chk (ack who) ≡ 0
ack-may true = may-ack 3 refl
ack-may false = may-ack 4 refl

unfoldable ack_octets : Bool → Bool → List ℕ
ack_octets b who = pick b (encode air_c (ack who)) []

ack-by : (b who : Bool) → pick b (outgoing (ack who)).sent (sent []) ≡ sent (ack_octets b who)
unfolding ack_octets
ack-by true who = goes-out (ack who) (ack-may who)
ack-by false who = refl

ack-short : (b who : Bool) → length (ack_octets b who) ≤ 115
unfolding ack_octets
ack-short true who = down-short (ack who)
ack-short false who = no_octets

ack-goes : (b who : Bool) → Sends down_goes (one b 2) (ack_octets b who) []
unfolding ack_octets
ack-goes true who = goes_one down_goes 2 _ refl (data-well (ack who) (ack-may who))
ack-goes false who = nothing down_goes []

passes-clean : (l : AirLink) (k e : ℕ) → CleanAnswer (passed l k e)
unfolding passed ack_of
passes-clean l k e =
    let m = move_at l k e in
    let who = eqb m.who EC in
    let g = move-goes down_goes m 2 (ack_octets m.send who) [] (ack-goes m.send who) in
    pick-case CleanAnswer (does_go m)
    (λ f. rw (ack-by m.send who) (stands (clean down_goes refl (ack-short m.send who) (went-acts l k e 2) g)))
    (λ f. aborts-clean l 3 refl refl)

-- an end, answered by an end response
ended-acts : (l : AirLink) (told : Bool) → (played l (end_parts l told)).acts ≡ pushed_all (acts []) (acts_of (li_answer told) 3 ++ acts_of (stop (em3_at (get_or l.at 3 0)) (to 3 0)) 0)
unfolding played end_parts halts performed begun pushed_all acts_of
ended-acts l told = sym (pushed-append (acts []) (acts_of (li_answer told) 3) (acts_of (stop (em3_at (get_or l.at 3 0)) (to 3 0)) 0))

ends-clean : (l : AirLink) (told : Bool) (s : List ℕ) → length s ≤ 115 → CleanAnswer (ended l told (sent s))
unfolding ended
ends-clean l told s h =
    let m = stop (em3_at (get_or l.at 3 0)) (to 3 0) in
    stands
    (clean down_goes refl h (ended-acts l told)
    (after down_goes (move-goes down_goes (li_answer told) 3 s [] (goes_one down_goes 3 s refl (ends-well s))) (move-goes down_goes m 0 [] [] (nothing down_goes []))))

-- what comes with a call fits it
unfoldable pub heard_well : Call → List ℕ → Bool
heard_well (Request kind) s = true
heard_well UserAbort s = true
heard_well (Elapse n) s = true
heard_well StartInd s = up_reads 1 (read_pdu ground_c s)
heard_well Data s = up_reads 2 (read_pdu ground_c s)
heard_well EndInd s = pick (eqb (length s) 0) true (up_reads 3 (read_pdu ground_c s))
heard_well PeerAbort s = true
heard_well GroundAbort s = not (eqb (reason_of (read_pdu ground_c s)) 2)
heard_well Down s = true

takes-clean : (l : AirLink) (k : ℕ) (g : Ground) → may_come k (uplink_event g) ≡ true → CleanAnswer (taken l k (got g))
unfolding taken
takes-clean l k g h = rw h (passes-clean l k (uplink_event g))

starts_clean : (l : AirLink) (x : per.Answer Ground) → up_reads 1 x ≡ true → CleanAnswer (taken l 1 x)
unfolding up_reads
starts_clean l (got g) h = takes-clean l 1 g h
starts_clean l (refused n) h = absurd (no_true (sym h))

data-clean : (l : AirLink) (x : per.Answer Ground) → up_reads 2 x ≡ true → CleanAnswer (taken l 2 x)
unfolding up_reads
data-clean l (got g) h = takes-clean l 2 g h
data-clean l (refused n) h = absurd (no_true (sym h))

all-clean : (l : AirLink) (x : per.Answer Ground) → up_reads 3 x ≡ true → CleanAnswer (all_cancelled l x)
unfolding up_reads all_cancelled
all-clean l (got g) h = let a = bare_air (Positive 6) in rw (h, goes-out a (may-ack 6 refl)) (ends-clean l true (encode air_c a) (down-short a))
all-clean l (refused n) h = absurd (no_true (sym h))

end_clean : (l : AirLink) (b : Bool) (x : per.Answer Ground) → pick b true (up_reads 3 x) ≡ true → CleanAnswer (pick b (ended l false (sent [])) (all_cancelled l x))
end_clean l true x h = ends-clean l false [] no_octets
end_clean l false x h = all-clean l x h

waits-clean : (l : AirLink) (n : ℕ) → CleanAnswer (waited l n)
unfolding waited begun
waits-clean l n = stands (clean-none down_goes)

user-aborts : Sends down_goes (4 ∷ []) [] []
unfolding down_goes down_fits kind_of
user-aborts = record { pass = refl; left = refl }

-- every answer
pub air-clean : (l : AirLink) (c : Call) (list : Listed) (s : List ℕ) → heard_well c s ≡ true → CleanAnswer (answered l c list s)
unfolding answered heard_well user_aborted elapsed indicated arrived end_indicated peer_aborted ground_aborted failed
air-clean l (Request kind) list s h = requests-clean l (record { kind = kind; list = list })
air-clean l UserAbort list s h = when-clean l (not (li_is l.at 0)) 1 4 0 refl user-aborts
air-clean l (Elapse n) list s h =
    allowed-case CleanAnswer (good l) (leb n 86400) _ (stays-clean l 29) (stays-clean l 4)
    (λ a b. pick-case CleanAnswer (below timers (not_due n l.left)) (λ d. waits-clean l n) (λ d. aborts-clean l 4 refl refl))
air-clean l StartInd list s h =
    allowed-case CleanAnswer (good l) (li_is l.at 0) _ (stays-clean l 29) (stays-clean l 2) (λ a b. starts_clean l (read_pdu ground_c s) h)
air-clean l Data list s h =
    allowed-case CleanAnswer (good l) (li_is l.at 2) _ (stays-clean l 29) (stays-clean l 2) (λ a b. data-clean l (read_pdu ground_c s) h)
air-clean l EndInd list s h =
    allowed-case CleanAnswer (good l) (li_is l.at 2) _ (stays-clean l 29) (stays-clean l 2) (λ a b. end_clean l (eqb (length s) 0) (read_pdu ground_c s) h)
air-clean l PeerAbort list s h = when-clean l (not (li_is l.at 0)) 2 7 0 refl (peer-shown down_goes)
air-clean l GroundAbort list s h = when-clean l (not (li_is l.at 0)) 2 6 (reason_of (read_pdu ground_c s)) (not-true _ h) (shown down_goes)
air-clean l Down list s h = when-clean l (not (li_is l.at 0)) 2 6 0 refl (shown down_goes)
