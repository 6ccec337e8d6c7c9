-- "Of longer data the first 129 octets are kept, which get the same answer" (02, L6). Assumes nothing.
use Prim.Native.Nat.{ℕ}
use mathlib.Core.Path.{◌≡◌, refl, sym, ap, ◌∙◌}
use mathlib.Core.Bool.{Bool, true, false}
use mathlib.Core.List.{List, []}
use native.Mathlib.Omega.{arith}
use borrow.Author.Tests.{leb-true, leb-false, lt-leb, ne_eqb}
use lib.Dec.{eqb, leb, lit≤}
use lib.ListN.{length, get_or, take}
use lib.Seq.{take_all, take-take, length-take-le}
use Rattle.per.specs.Codec.{Codec}
use Rattle.per.specs.Pdu.{read_pdu, window, start}
use Rattle.pdu.specs.DownlinkTable.{air_c}
use Rattle.pdu.specs.UplinkTable.{ground_c}
use Rattle.link.specs.Tests.{both, pick}
use Rattle.ground_answer.specs.declared.record.Link.{Link}
use Rattle.ground.specs.Arrivals.{confirmed, arrived}
use Rattle.ground.specs.Endings.{air_aborted}
use Rattle.ground.specs.Runs.{answered}
use Rattle.ground.specs.declared.call.Call.{Call}
use Rattle.ground.specs.declared.call.Call.TheVariants.{Request, UserAbort, Elapse, StartConfirm, StartRejected, Data, EndConfirm, PeerAbort, AirAbort, Down}
use Rattle.script.specs.Fields.{Field, garbled, holds, counts}
use Rattle.script.specs.Lines.{Parsed, unread, makes, shapes_of, call_of}
use Rattle.bench_line.specs.Words.{ground_words}
use Rattle.bench_line.specs.Lines.{ground_script, request_in, octets_call}
use Rattle.bench.specs.declared.reply.Setup.{Setup}
use Rattle.log_blocks.specs.Record.{Rec, rec, noted}
use Rattle.log_play.specs.Steps.{field_in, word_of, call_in, call_step, accepted, settings_long, is_settings, open_step, step_of}

-- what is longer than 128 octets is refused before any bit of it is read, and so is what is kept of it
pub read_kept : {A : Type 0} (c : Codec A) (s : List ℕ) → read_pdu c (take 129 s) ≡ read_pdu c s
unfolding read_pdu window start
read_kept c s = go (leb (length s) 129) refl
  where
    go : (b : Bool) → leb (length s) 129 ≡ b → read_pdu c (take 129 s) ≡ read_pdu c s
    go true e = ap (read_pdu c) (take_all 129 s (leb-true _ _ e))
    go false e =
        let h = leb-false (length s) 129 e in
        let n = length-take-le 129 s (omega (arith, h)) in
        rw (take-take 128 129 s (lit≤ tt), lt-leb (length (take 129 s)) 128 (omega (arith, n)), lt-leb (length s) 128 (omega (arith, h)))

-- at every call: late data is not read at all, and a request has no octets beside it
pub answer-kept : (l : Link) (c : Call) (s : List ℕ) → answered l c (take 129 s) ≡ answered l c s
unfolding answered confirmed arrived air_aborted
answer-kept l (Request g) s = refl
answer-kept l UserAbort s = refl
answer-kept l (Elapse n) s = refl
answer-kept l StartConfirm s = rw (read_kept air_c s)
answer-kept l StartRejected s = refl
answer-kept l Data s = rw (read_kept air_c s)
answer-kept l EndConfirm s = refl
answer-kept l PeerAbort s = refl
answer-kept l AirAbort s = rw (read_kept air_c s)
answer-kept l Down s = refl

-- ---- a record that is cut so
short_none : (s : List ℕ) → eqb (length (take 129 s)) 0 ≡ eqb (length s) 0
short_none s = go (leb (length s) 129) refl
  where
    go : (b : Bool) → leb (length s) 129 ≡ b → eqb (length (take 129 s)) 0 ≡ eqb (length s) 0
    go true e = ap (λ (x : List ℕ). eqb (length x) 0) (take_all 129 s (leb-true _ _ e))
    go false e =
        let h = leb-false (length s) 129 e in
        let n = length-take-le 129 s (omega (arith, h)) in
        ne_eqb (length (take 129 s)) 0 (λ z. omega (arith, z, n)) ∙ sym (ne_eqb (length s) 0 (λ z. omega (arith, z, h)))

-- the call of a word by octets is the same where what is kept of them is the same to it
octets-kept : (l : Link) (w : ℕ) (s : List ℕ) → call_step l (octets_call w (take 129 s)) ≡ call_step l (octets_call w s)
unfolding octets_call call_step
octets-kept l w s =
    go (eqb w 2) (eqb w 3) (eqb w 5) (eqb w 6) (eqb w 7) (eqb w 8) (eqb w 9) (eqb w 10) (eqb w 11)
  where
    q : List ℕ → Bool → Bool → Bool → Bool → Bool → Bool → Bool → Bool → Bool → Parsed Call
    q o a b c d e f g h i =
        pick a (request_in (read_pdu ground_c o))
        (pick b (makes UserAbort [])
        (pick c (makes StartConfirm o)
        (pick d (makes StartRejected [])
        (pick e (makes Data o)
        (pick f (makes EndConfirm [])
        (pick g (makes PeerAbort [])
        (pick h (makes AirAbort o)
        (pick i (makes Down []) unread))))))))

    go : (a b c d e f g h i : Bool) → call_step l (q (take 129 s) a b c d e f g h i) ≡ call_step l (q s a b c d e f g h i)
    go true b c d e f g h i = ap (λ (x : _). call_step l (request_in x)) (read_kept ground_c s)
    go false true c d e f g h i = refl
    go false false true d e f g h i = ap accepted (answer-kept l StartConfirm s)
    go false false false true e f g h i = refl
    go false false false false true f g h i = ap accepted (answer-kept l Data s)
    go false false false false false true g h i = refl
    go false false false false false false true h i = refl
    go false false false false false false false true i = ap accepted (answer-kept l AirAbort s)
    go false false false false false false false false true = refl
    go false false false false false false false false false = refl

field-kept : (l : Link) (w shape seconds : ℕ) (s : List ℕ)
    → call_step l (call_of ground_script w (field_in shape seconds (take 129 s))) ≡ call_step l (call_of ground_script w (field_in shape seconds s))
unfolding field_in call_of call_step
field-kept l w shape seconds s =
    rw (short_none s) (go (eqb shape 3) (eqb seconds 0) (eqb shape 2) (eqb shape 1) (eqb (length s) 0))
  where
    f : List ℕ → Bool → Bool → Bool → Bool → Bool → Field
    f o a b c d e =
        pick a (pick e (counts seconds) garbled) (pick b (pick c (holds o) (pick d (pick e (holds []) garbled) garbled)) garbled)

    go : (a b c d e : Bool) → call_step l (call_of ground_script w (f (take 129 s) a b c d e)) ≡ call_step l (call_of ground_script w (f s a b c d e))
    go true b c d e = refl
    go false false c d e = refl
    go false true true d e = octets-kept l w s
    go false true false true true = refl
    go false true false true false = refl
    go false true false false e = refl

settings-kept : (r : Rec) → open_step (noted r) ≡ open_step r
unfolding open_step is_settings settings_long
settings-kept r = go (leb (length r.octets) 129) refl
  where
    none : {A : Type 0} (a b : Bool) (x y z : A) → pick (both a (both b false)) x z ≡ pick (both a (both b false)) y z
    none true true x y z = refl
    none true false x y z = refl
    none false b x y z = refl

    go : (b : Bool) → leb (length r.octets) 129 ≡ b → open_step (noted r) ≡ open_step r
    go true e = ap (λ (s : List ℕ). open_step (rec r.kind r.seconds s)) (take_all 129 r.octets (leb-true _ _ e))
    go false e =
        let s = r.octets in
        let h = leb-false (length s) 129 e in
        let n = length-take-le 129 s (omega (arith, h)) in
        rw (ne_eqb (length (take 129 s)) 40 (λ z. omega (arith, z, n)), ne_eqb (length (take 129 s)) 36 (λ z. omega (arith, z, n)), ne_eqb (length s) 40 (λ z. omega (arith, z, h)), ne_eqb (length s) 36 (λ z. omega (arith, z, h))) (none (eqb r.kind 0) (eqb r.seconds 0) _ _ _)

-- a record and what is kept of it are the same to every box
pub step_kept : (b : Setup) (r : Rec) → step_of b (noted r) ≡ step_of b r
unfolding step_of call_in
step_kept b r =
    let w = word_of r.kind in
    rw (settings-kept r, field-kept b.link w (get_or (shapes_of ground_words) w 0) r.seconds r.octets)
