-- What the recorder wrote plays as the calls went (02, L6): "Reading a log and playing it gives the same state and the same actions as the calls did." Assumes nothing.
use Prim.Native.Nat.{ℕ, zero, suc, ◌≤◌, ◌<◌}
use mathlib.Core.Path.{◌≡◌, refl, sym, ap, ◌∙◌}
use mathlib.Core.Bool.{Bool, true, false}
use mathlib.Core.List.{List, [], ◌∷◌, ◌++◌, append-nil}
use native.Mathlib.Omega.{arith}
use borrow.Author.Tests.{eqb-true, eqb-false, eq-eqb, ne_eqb, leb-true, leb-false}
use lib.Dec.{T, eqb, leb, lit<}
use lib.ListN.{length, get_or, set, drop, length-take, length-append, get_or-eq_default}
use Rattle.per.specs.Pdu as per
use Rattle.per.specs.Pdu.{pack, encode, got}
use Rattle.per.specs.Formats.{via, dep, field, choice, alt_codec, absent}
use Rattle.per.specs.laws.Bits.{num_at-lt}
use Rattle.pdu.specs.declared.uplink.Ground.{Ground}
use Rattle.pdu.specs.declared.uplink.Ground.TheVariants.{CancelAll, CancelContract, CancelEmergencyAck, DemandContract, EventContract, ModifyEmergency, PeriodicContract, Abort}
use Rattle.pdu.specs.UplinkTable.{ground_c, ground_alt}
use Rattle.pdu.proofs.Promises.{ground-written}
use Rattle.link.specs.Tests.{pick, below}
use Rattle.link.specs.Names.{timers, EC, PC, of, no_request, DATA-REQUEST}
use Rattle.link.specs.Watch.{setting_ok, li_is}
use Rattle.link.specs.Moves.{does_go}
use Rattle.link.proofs.Laws.{T-eq, below_at, seconds-range, pick-case}
use Rattle.ground_tables.specs.Names.{cancel, LI1, LI-IDLE, LI-START, LI-ACTIVE}
use Rattle.octets.specs.Octets.{quads, words, Octets}
use Rattle.octets.specs.laws.Numbers.{words-quads, length-quads}
use Rattle.octets.specs.laws.Runs.{octets-take}
use Rattle.ground_answer.specs.declared.record.Link.{Link}
use Rattle.ground_answer.specs.declared.answer.Answer.{Answer}
use Rattle.ground_answer.specs.Answers.{START-REQUEST, refusal}
use Rattle.ground_answer.specs.Clock.{elapsed}
use Rattle.ground_answer.specs.Events.{request_event, cancel_event, cancel_all}
use Rattle.ground_answer.specs.Record.{fresh, good, move_at}
use Rattle.ground_answer.specs.Fresh.{opened}
use Rattle.ground_answer.specs.Sent.{outgoing, letter_of}
use Rattle.ground.specs.Requests.{requested, asked, user_aborted}
use Rattle.ground.specs.Arrivals.{confirmed, arrived}
use Rattle.ground.specs.Endings.{rejected, failed, air_aborted, peer_aborted, end_confirmed}
use Rattle.ground.specs.Runs.{answered, Made, reply}
use Rattle.ground.specs.declared.call.Call.{Call}
use Rattle.ground.specs.declared.call.Call.TheVariants.{Request, UserAbort, Elapse, StartConfirm, StartRejected, Data, EndConfirm, PeerAbort, AirAbort, Down}
use Rattle.script.specs.Lines.{call_of}
use Rattle.bench_line.specs.Lines.{request_in, octets_call, number_call}
use Rattle.bench.specs.Replies.{ready_setup}
use Rattle.log_blocks.specs.Log.{All}
use Rattle.log_blocks.specs.Log as log
use Rattle.log_blocks.specs.Record.{Good, noted, form_one}
use Rattle.log_blocks.specs.Play.{went, trace, play, play_log}
use Rattle.log_blocks.specs.Block.{BLOCKS}
use Rattle.log_blocks.specs.Tapes.{tape, recorder, note_all, log_of}
use Rattle.log_blocks.proofs.Packs.{held_all}
use Rattle.log_blocks.proofs.Plays.{play-read}
use Rattle.log_blocks.proofs.Recorders.{recorder-packs}
use Rattle.log_blocks.proofs.Promises.{packed-reads}
use Rattle.log_play.specs.Steps.{field_in, call_in, call_step, accepted, SETTINGS-OCTETS, OLD-OCTETS, OLD-LI1, settings_long, is_settings, settings_of, open_answer, open_step, step_of}
use Rattle.log_play.specs.Records.{record_of, settings_record, records_from, answers_from, records_of, answers_of, Plain, Callable}
use Rattle.log_play.specs.Plays.{blank}
use Rattle.log_play.proofs.Kept.{step_kept}

-- ---- a request's data
letter-number : (k : ℕ) (s : List ℕ) → (letter_of k s).refusal ≡ k
unfolding letter_of
letter-number zero s = refl
letter-number (suc k) s = refl

-- cancel-all may always be written, and no other request is LI's own
no-cancel : (n : ℕ) → cancel_event n ≡ cancel_all → ⊥
unfolding cancel_event
no-cancel n = go (eqb n 0) (eqb n 1)
  where
    go : (a b : Bool) → pick a (of EC cancel) (pick b (of PC cancel) no_request) ≡ cancel_all → ⊥
    go true b e = omega (arith, e)
    go false true e = omega (arith, e)
    go false false e = omega (arith, e)

cancel-writes : (g : Ground) → request_event g ≡ cancel_all → ground_c.chk g ≡ 0
unfolding request_event ground_c ground_alt via dep field choice alt_codec absent
cancel-writes CancelAll e = refl
cancel-writes (CancelContract n) e = absurd (no-cancel n e)
cancel-writes CancelEmergencyAck e = absurd (omega (arith, e))
cancel-writes (DemandContract v) e = absurd (omega (arith, e))
cancel-writes (EventContract v) e = absurd (omega (arith, e))
cancel-writes (ModifyEmergency i) e = absurd (omega (arith, e))
cancel-writes (PeriodicContract a) e = absurd (omega (arith, e))
cancel-writes (Abort n) e = absurd (omega (arith, e))

module _ (l : Link) (g : Ground) where
  -- an accepted request may be written
  abbrev Writes : Answer → Type 0
  Writes a = a.said.refusal ≡ 0 → ground_c.chk g ≡ 0

  asked-writes : (li entry : ℕ) → Writes (asked l g li entry)
  unfolding asked outgoing
  asked-writes li entry =
      pick-case Writes (does_go (move_at l li (request_event g)))
      (λ f. pick-case Writes (eqb (letter_of (ground_c.chk g) (encode ground_c g)).refusal 0)
      (λ r e. sym (letter-number (ground_c.chk g) (encode ground_c g)) ∙ eqb-true _ 0 r)
      (λ r e. absurd (eqb-false _ 0 r e)))
      (λ f e. absurd (omega (arith, e)))

  pub may_write : Writes (requested l g)
  unfolding requested
  may_write =
      pick-case Writes (eqb (request_event g) cancel_all) (λ e r. cancel-writes g (eqb-true _ cancel_all e))
      (λ e. pick-case Writes (good l)
      (λ ok. pick-case Writes (li_is l.at LI-IDLE) (λ i. asked-writes LI-START START-REQUEST)
      (λ i. pick-case Writes (li_is l.at LI-ACTIVE) (λ j. asked-writes LI-ACTIVE DATA-REQUEST) (λ j r. absurd (omega (arith, r)))))
      (λ bad r. absurd (omega (arith, r))))

accepted-went : (a : Answer) → a.said.refusal ≡ 0 → accepted a ≡ went (ready_setup a.link) a
unfolding accepted
accepted-went a e = rw (eq-eqb _ 0 e)

-- the record of an accepted call makes the same call
pub record-plays : (l : Link) (c : Call) (s : List ℕ) → Plain c → (answered l c s).said.refusal ≡ 0
    → step_of (ready_setup l) (record_of c s) ≡ went (ready_setup (answered l c s).link) (answered l c s)
unfolding step_of call_in call_step call_of field_in octets_call number_call request_in record_of answered
record-plays l (Request g) s p e =
    ap (λ (x : per.Answer Ground). call_step l (request_in x)) (ground-written g (may_write l g e) ∙ ap got p) ∙ accepted-went (requested l g) e
record-plays l UserAbort s p e = accepted-went (user_aborted l) e
record-plays l (Elapse n) s p e = accepted-went (elapsed l n) e
record-plays l StartConfirm s p e = accepted-went (confirmed l s) e
record-plays l StartRejected s p e = accepted-went (rejected l) e
record-plays l Data s p e = accepted-went (arrived l s) e
record-plays l EndConfirm s p e = accepted-went (end_confirmed l) e
record-plays l PeerAbort s p e = accepted-went (peer_aborted l) e
record-plays l AirAbort s p e = accepted-went (air_aborted l s) e
record-plays l Down s p e = accepted-went (failed l) e

-- ---- the records of calls play as the calls went
pub calls-play : (cs : List Made) (l : Link) → All Callable cs → play step_of (ready_setup l) (records_from l cs) ≡ log.got (answers_from l cs)
calls-play [] l g = refl
calls-play (c ∷ cs) l g = go (eqb (reply l c).said.refusal 0) refl (calls-play cs (reply l c).link g.1) (calls-play cs l g.1)
  where
    a : Answer
    a = reply l c

    go : (b : Bool) → eqb (reply l c).said.refusal 0 ≡ b
        → play step_of (ready_setup (reply l c).link) (records_from (reply l c).link cs) ≡ log.got (answers_from (reply l c).link cs)
        → play step_of (ready_setup l) (records_from l cs) ≡ log.got (answers_from l cs)
        → play step_of (ready_setup l) (pick b (noted (record_of c.call c.octets) ∷ records_from (reply l c).link cs) (records_from l cs))
        ≡ log.got (pick b (trace (answers_from (reply l c).link cs).state (reply l c ∷ (answers_from (reply l c).link cs).answers)) (answers_from l cs))
    go true e f h =
        rw (step_kept (ready_setup l) (record_of c.call c.octets), record-plays l c.call c.octets g.0.call (eqb-true _ 0 e), f)
    go false e f h = h

-- ten settings, each 1..86,400
pub record Settings (s : List ℕ) : Type 0 where
  pub ten : length s ≡ timers
  pub fine : T (below timers (setting_ok s))

settings-back : (k : ℕ) (s : List ℕ) → length s ≡ k → words (quads s) 0 k ≡ s
settings-back k s n =
    ap (λ (j : ℕ). words (quads s) 0 j) (sym n) ∙ ap (λ (x : List ℕ). words x 0 (length s)) (sym (append-nil (quads s))) ∙ words-quads s [] [] 0 refl

opens : (s : List ℕ) → Settings s → accepted (open_answer (opened s)) ≡ went (ready_setup (fresh s)) (refusal (fresh s) 0)
unfolding opened accepted
opens s h = rw (T-eq (below timers (setting_ok s)) h.fine)

pub settings-open : (s : List ℕ) → Settings s → step_of blank (settings_record s) ≡ went (ready_setup (fresh s)) (refusal (fresh s) 0)
unfolding step_of open_step is_settings settings_long settings_of settings_record
settings-open s h =
    let n : length (quads s) ≡ SETTINGS-OCTETS = length-quads s ∙ omega (arith, h.ten) in
    rw (eq-eqb (length (quads s)) SETTINGS-OCTETS n, ne_eqb (length (quads s)) OLD-OCTETS (λ z. omega (arith, z, n)), settings-back timers s h.ten) (opens s h)

-- ---- "logs with thirty-six are read with LI1 at 86,400" (02, L8): as the settings with that number behind the nine
old-last : (s : List ℕ) → length s ≡ LI1 → set (words (quads s) 0 timers) LI1 OLD-LI1 ≡ s ++ (OLD-LI1 ∷ [])
old-last s h = ap (λ (x : List ℕ). x ++ (OLD-LI1 ∷ [])) (settings-back LI1 s h)

pub old-settings : (s : List ℕ) → length s ≡ LI1 → step_of blank (settings_record s) ≡ step_of blank (settings_record (s ++ (OLD-LI1 ∷ [])))
unfolding step_of open_step is_settings settings_long settings_of settings_record
old-settings s h =
    let t = s ++ (OLD-LI1 ∷ []) in
    let k : length t ≡ timers = length-append s (OLD-LI1 ∷ []) ∙ omega (arith, h) in
    let n : length (quads s) ≡ OLD-OCTETS = length-quads s ∙ omega (arith, h) in
    let m : length (quads t) ≡ SETTINGS-OCTETS = length-quads t ∙ omega (arith, k) in
    rw (ne_eqb (length (quads s)) SETTINGS-OCTETS (λ z. omega (arith, z, n)), eq-eqb (length (quads s)) OLD-OCTETS n, eq-eqb (length (quads t)) SETTINGS-OCTETS m, ne_eqb (length (quads t)) OLD-OCTETS (λ z. omega (arith, z, m)), old-last s h, settings-back timers t k)

-- ---- what is recorded is well formed
pack-octets : (n : ℕ) (bs : List Bool) → Octets (pack n bs)
unfolding pack
pack-octets zero bs k = lit< tt
pack-octets (suc n) bs zero = num_at-lt bs 0 8
pack-octets (suc n) bs (suc k) = pack-octets n (drop 8 bs) k

none-octets : Octets []
none-octets k = lit< tt

call-octets : (c : Call) (s : List ℕ) → Octets s → Octets (record_of c s).octets
unfolding record_of encode
call-octets (Request g) s o = pack-octets _ _
call-octets UserAbort s o = none-octets
call-octets (Elapse n) s o = none-octets
call-octets StartConfirm s o = o
call-octets StartRejected s o = none-octets
call-octets Data s o = o
call-octets EndConfirm s o = none-octets
call-octets PeerAbort s o = none-octets
call-octets AirAbort s o = o
call-octets Down s o = none-octets

call-numbers : (c : Call) (s : List ℕ) → Plain c → ((record_of c s).kind < 256) × ((record_of c s).seconds < 4294967296)
unfolding record_of
call-numbers (Request g) s p = (lit< tt, lit< tt)
call-numbers UserAbort s p = (lit< tt, lit< tt)
call-numbers (Elapse n) s p = (lit< tt, p)
call-numbers StartConfirm s p = (lit< tt, lit< tt)
call-numbers StartRejected s p = (lit< tt, lit< tt)
call-numbers Data s p = (lit< tt, lit< tt)
call-numbers EndConfirm s p = (lit< tt, lit< tt)
call-numbers PeerAbort s p = (lit< tt, lit< tt)
call-numbers AirAbort s p = (lit< tt, lit< tt)
call-numbers Down s p = (lit< tt, lit< tt)

good-call : (c : Made) → Callable c → Good (noted (record_of c.call c.octets))
good-call c h =
    let r = record_of c.call c.octets in
    let n = call-numbers c.call c.octets h.call in
    record {
      kind = n.0;
      seconds = n.1;
      short = omega (arith, length-take 129 r.octets);
      octets = octets-take 129 r.octets (call-octets c.call c.octets h.octets);
    }

good-from : (cs : List Made) (l : Link) → All Callable cs → All Good (records_from l cs)
good-from [] l g = tt
good-from (c ∷ cs) l g = go (eqb (reply l c).said.refusal 0) (good-from cs (reply l c).link g.1) (good-from cs l g.1)
  where
    go : (b : Bool) → All Good (records_from (reply l c).link cs) → All Good (records_from l cs)
        → All Good (pick b (noted (record_of c.call c.octets) ∷ records_from (reply l c).link cs) (records_from l cs))
    go true f h = (good-call c g.0, f)
    go false f h = h

quads-octets : (ws : List ℕ) → ((k : ℕ) → get_or ws k 0 < 4294967296) → Octets (quads ws)
quads-octets [] h k = lit< tt
quads-octets (w ∷ ws) h zero = omega (arith, h 0)
quads-octets (w ∷ ws) h (suc zero) = omega arith
quads-octets (w ∷ ws) h (suc (suc zero)) = omega arith
quads-octets (w ∷ ws) h (suc (suc (suc zero))) = omega arith
quads-octets (w ∷ ws) h (suc (suc (suc (suc k)))) = quads-octets ws (λ j. h (suc j)) k

setting-small : (s : List ℕ) → Settings s → (k : ℕ) → get_or s k 0 < 4294967296
unfolding setting_ok
setting-small s h k = go (leb timers k) refl
  where
    go : (b : Bool) → leb timers k ≡ b → get_or s k 0 < 4294967296
    go true e = rw (get_or-eq_default s 0 {n = k} (omega (arith, leb-true timers k e, h.ten))) (lit< tt)
    go false e = omega (arith, seconds-range (get_or s k 0) (below_at timers (setting_ok s) h.fine k (leb-false timers k e)))

good-settings : (s : List ℕ) → Settings s → Good (settings_record s)
unfolding settings_record
good-settings s h =
    record {
      kind = lit< tt;
      seconds = lit< tt;
      short = omega (arith, length-quads s, h.ten);
      octets = quads-octets s (setting-small s h);
    }

-- ---- a log of calls from good settings on: what is read of it plays as the calls went, with the same box and the same answers, call by call
pub records-play : (s : List ℕ) → Settings s → (cs : List Made) → All Callable cs → play step_of blank (records_of s cs) ≡ log.got (answers_of s cs)
records-play s h cs g = rw (settings-open s h, calls-play cs (fresh s) g)

-- and so does a log of before L8, of a link with LI1 at 86,400
pub old-records-play : (s : List ℕ) → length s ≡ LI1 → (let t = s ++ (OLD-LI1 ∷ []) in Settings t → (cs : List Made) → All Callable cs
    → play step_of blank (settings_record s ∷ records_from (fresh t) cs) ≡ log.got (answers_of t cs))
old-records-play s n h cs g = rw (old-settings s n) (records-play (s ++ (OLD-LI1 ∷ [])) h cs g)

pub records-good : (s : List ℕ) → Settings s → (cs : List Made) → All Callable cs → All Good (records_of s cs)
records-good s h cs g = (good-settings s h, good-from cs (fresh s) g)

-- the log of them, in as many blocks as a log may have
module _ (s : List ℕ) (h : Settings s) (cs : List Made) (g : All Callable cs) (few : length (log.pack form_one (records_of s cs)) ≤ BLOCKS) where
  pub log-plays : play_log step_of form_one blank (log.pack form_one (records_of s cs)) ≡ log.got (answers_of s cs)
  log-plays =
      let rs = records_of s cs in
      play-read step_of form_one (log.pack form_one rs) 0 rs blank (packed-reads rs (records-good s h cs g) few) ∙ records-play s h cs g

  -- and what `append` and `finish` leave in a lent block is that log
  pub recorder-plays : (b : List ℕ) → length b ≡ 512 → play_log step_of form_one blank (log_of (note_all (recorder (tape 0 0) b []) (records_of s cs))) ≡ log.got (answers_of s cs)
  recorder-plays b n =
      let rs = records_of s cs in
      ap (play_log step_of form_one blank) (recorder-packs rs b n (records-good s h cs g) ∙ ap (log.pack form_one) (held_all form_one rs few)) ∙ log-plays
