-- The blocks that append and finish leave, called in turn, are those that the records are packed into. Assumes nothing.
use Prim.Native.Nat.{ℕ, ◌+◌, ◌≤◌, ◌<◌}
use mathlib.Core.Path.{◌≡◌, refl, sym, ap, ◌∙◌}
use mathlib.Core.Bool.{Bool, true, false}
use mathlib.Core.List.{List, [], ◌∷◌, ◌++◌, append_assoc}
use native.Mathlib.Omega.{arith}
use borrow.Author.Tests.{ne_eqb, leb-true, leb-false, ltb-true, ltb-false}
use lib.Dec.{leb, ltb}
use lib.ListN.{length, take, drop, length-drop, length-append}
use lib.Seq.{sets, sets-eq, length-sets, length-take-le, take_at, drop_at, take-add}
use Rattle.link.specs.Tests.{pick}
use Rattle.log_blocks.specs.Block.{ROOM, BLOCKS, block_of}
use Rattle.log_blocks.specs.Log.{All, pack_from, pack, held_from, held}
use Rattle.log_blocks.specs.Record.{Rec, Good, rec_octets, form_one}
use Rattle.log_blocks.specs.Tapes.{tape, written, fitting, appended_to, finished_to, Recorder, recorder, turned, note_by, note_all, log_of}
use Rattle.log_blocks.specs.declared.Tape.{Tape}
use Rattle.log_blocks.specs.declared.NotWritten.{NotWritten}
use Rattle.std.specs.Prelude.{Result}
use Rattle.log_blocks.proofs.Blocks.{block-long}
use Rattle.log_blocks.proofs.Packs.{packs-here, packs-next}
use Rattle.log_blocks.proofs.Seals.{Fits, fitting-is, no_room, no_more, room, finished-is}

-- ---- the payload grows by the record's octets
module _ (b : List ℕ) (u : ℕ) (v : List ℕ) (h : length b ≡ 512) (k : u + length v ≤ 504) where
  abbrev front : List ℕ
  front = take 6 b ++ take u (drop 6 b)

  front_long : length front ≡ 6 + u
  front_long =
      length-append (take 6 b) (take u (drop 6 b))
      ∙ omega (arith, length-take-le 6 b (omega arith), length-take-le u (drop 6 b) (omega (arith, length-drop 6 b)))

  stored : sets b (6 + u) v ≡ take 6 b ++ ((take u (drop 6 b) ++ v) ++ drop (6 + u + length v) b)
  stored =
      let l = drop (6 + u + length v) b in
      sets-eq v b (6 + u) (omega arith)
      ∙ ap (λ (x : List ℕ). (x ++ v) ++ l) (take-add 6 u b)
      ∙ ap (λ (x : List ℕ). x ++ l) (append_assoc (take 6 b) (take u (drop 6 b)) v)
      ∙ append_assoc (take 6 b) (take u (drop 6 b) ++ v) l

  grown : take (u + length v) (drop 6 (sets b (6 + u) v)) ≡ take u (drop 6 b) ++ v
  grown =
      let q = take u (drop 6 b) in
      let l = drop (6 + u + length v) b in
      ap (λ (x : List ℕ). take (u + length v) (drop 6 x)) stored
      ∙ ap (take (u + length v)) (drop_at (take 6 b) ((q ++ v) ++ l) 6 (length-take-le 6 b (omega arith)))
      ∙ take_at (q ++ v) l (u + length v) (length-append q v ∙ omega (arith, length-take-le u (drop 6 b) (omega (arith, length-drop 6 b))))

module _ (b : List ℕ) (t : Tape) (r : Rec) (f : Fits t (length b)) (k : t.used + length (rec_octets r) ≤ 504) where
  abbrev in-room : Type 0
  in-room = sets b (6 + t.used) (rec_octets r) ≡ appended_to t b r

  stored_there : in-room
  stored_there = (room t b r (fitting-is t (length b) f) k).block_is

  pub written-more : (n : ℕ) → written (tape n (t.used + length (rec_octets r))) (appended_to t b r) ≡ written t b ++ rec_octets r
  unfolding written
  written-more n =
      ap (λ (x : List ℕ). take (t.used + length (rec_octets r)) (drop 6 x)) (sym stored_there) ∙ grown b t.used (rec_octets r) f.long k

  pub appended-long : length (appended_to t b r) ≡ 512
  appended-long = ap length (sym stored_there) ∙ length-sets b (6 + t.used) (rec_octets r) ∙ f.long

-- ---- a recorder that has a record in its block
pub record Sane (d : Recorder) : Type 0 where
  pub some : 0 < d.at.used
  pub fits : Fits d.at (length d.block)

module _ (d : Recorder) (s : Sane d) where
  abbrev t : Tape
  t = d.at

  abbrev b : List ℕ
  b = d.block

  fit : fitting t (length b) ≡ true
  fit = fitting-is t (length b) s.fits

  written-long : length (written t b) ≡ t.used
  unfolding written
  written-long = length-take-le t.used (drop 6 b) (omega (arith, length-drop 6 b, s.fits.long, s.fits.room))

  finished-long : length (finished_to t b) ≡ 512
  finished-long = ap length (finished-is t b fit) ∙ block-long t.number (written t b) (omega (arith, written-long, s.fits.room))

  log-last : log_of d ≡ d.done ++ pack_from form_one t.number (written t b) []
  unfolding log_of
  log-last =
      let n : (t.used ≡ 0 → ⊥) = λ e. omega (arith, e, s.some) in
      let z : form_one.top + t.number ≡ t.number = omega arith in
      rw (ne_eqb t.used 0 n, finished-is t b fit, z)

module _ (d : Recorder) (s : Sane d) (r : Rec) where
  abbrev len : ℕ
  len = length (rec_octets r)

  abbrev following : Recorder
  following =
      recorder (tape d.at.number (d.at.used + len)) (appended_to d.at d.block r) d.done

  note-fits : d.at.used + len ≤ 504 → (rs : List Rec) → note_all d (r ∷ rs) ≡ note_all following rs
  note-fits k rs = ap (λ (a : Result Tape NotWritten). note_by a d r (λ (e : Recorder). note_all e rs)) (sym (room d.at d.block r (fit d s) k).answer_is)

  fits-sane : d.at.used + len ≤ 504 → Sane following
  fits-sane k = record { some = omega arith; fits = record { long = appended-long d.block d.at r s.fits k; room = k; number = s.fits.number } }

  note-full : 504 < d.at.used + len → d.at.number + 1 < BLOCKS → (rs : List Rec) → note_all d (r ∷ rs) ≡ note_all (turned d r) rs
  note-full k l rs = ap (λ (a : Result Tape NotWritten). note_by a d r (λ (e : Recorder). note_all e rs)) (sym (no_room d.at d.block r (fit d s) k l).answer_is)

  note-ended : 504 < d.at.used + len → BLOCKS ≤ d.at.number + 1 → (rs : List Rec) → note_all d (r ∷ rs) ≡ d
  note-ended k l rs = ap (λ (a : Result Tape NotWritten). note_by a d r (λ (e : Recorder). note_all e rs)) (sym (no_more d.at d.block r (fit d s) k l).answer_is)

  abbrev fresh : Tape
  fresh = tape (d.at.number + 1) 0

  module _ (g : Good r) (l : d.at.number + 1 < BLOCKS) where
    small : 0 + len ≤ 504
    small = omega (arith, g.short)

    fresh-fits : Fits fresh (length (finished_to d.at d.block))
    fresh-fits = record { long = finished-long d s; room = omega arith; number = l }

    turned-sane : Sane (turned d r)
    turned-sane =
        record {
          some = omega arith;
          fits =
              record {
                long = appended-long (finished_to d.at d.block) fresh r fresh-fits small;
                room = omega (arith, g.short);
                number = l;
              };
        }

    turned-written : written (turned d r).at (turned d r).block ≡ rec_octets r
    unfolding written
    turned-written =
        let e : 0 + len ≡ len = omega arith in
        ap (λ (j : ℕ). written (tape (d.at.number + 1) j) (turned d r).block) (sym e)
        ∙ written-more (finished_to d.at d.block) fresh r fresh-fits small (d.at.number + 1)

-- what is on the tape, and then the records that the log has room for
pub notes-pack : (rs : List Rec) (d : Recorder) → Sane d → All Good rs
    → log_of (note_all d rs)
    ≡ d.done ++ pack_from form_one d.at.number (written d.at d.block) (held_from form_one d.at.number (written d.at d.block) rs)
notes-pack [] d s g = log-last d s
notes-pack (r ∷ rs) d s g =
    go (leb (length (written d.at d.block) + length (rec_octets r)) ROOM) refl (ltb (d.at.number + 1) BLOCKS) refl (λ e i. notes-pack rs e i g.1)
  where
    go : (c : Bool) → leb (length (written d.at d.block) + length (rec_octets r)) ROOM ≡ c → (a : Bool) → ltb (d.at.number + 1) BLOCKS ≡ a
        → ((e : Recorder) → Sane e
        → log_of (note_all e rs)
        ≡ e.done ++ pack_from form_one e.at.number (written e.at e.block) (held_from form_one e.at.number (written e.at e.block) rs))
        → log_of (note_all d (r ∷ rs))
        ≡ d.done
        ++ pack_from form_one d.at.number (written d.at d.block)
        (pick c (r ∷ held_from form_one d.at.number (written d.at d.block ++ rec_octets r) rs)
        (pick a (r ∷ held_from form_one (d.at.number + 1) (rec_octets r) rs) []))
    go true e a f i =
        let p = written d.at d.block in
        let m = d.at.number in
        let k : d.at.used + length (rec_octets r) ≤ ROOM = omega (arith, leb-true (length p + length (rec_octets r)) ROOM e, written-long d s) in
        ap log_of (note-fits d s r k rs)
        ∙ i (following d s r) (fits-sane d s r k)
        ∙ ap (λ (x : List ℕ). d.done ++ pack_from form_one m x (held_from form_one m x rs)) (written-more d.block d.at r s.fits k m)
        ∙ ap (λ (x : List (List ℕ)). d.done ++ x) (sym (packs-here form_one m p r (held_from form_one m (p ++ rec_octets r) rs) e))
    go false e true f i =
        let p = written d.at d.block in
        let m = d.at.number in
        let k : ROOM < d.at.used + length (rec_octets r) = omega (arith, leb-false (length p + length (rec_octets r)) ROOM e, written-long d s) in
        let l = ltb-true (m + 1) BLOCKS f in
        let z : m ≡ form_one.top + m = omega arith in
        let h = held_from form_one (m + 1) (rec_octets r) rs in
        let x = pack_from form_one (m + 1) (rec_octets r) h in
        let fin = finished_to d.at d.block in
        ap log_of (note-full d s r k l rs)
        ∙ i (turned d r) (turned-sane d s r g.0 l)
        ∙ ap (λ (y : List ℕ). (d.done ++ (fin ∷ [])) ++ pack_from form_one (m + 1) y (held_from form_one (m + 1) y rs)) (turned-written d s r g.0 l)
        ∙ append_assoc d.done (fin ∷ []) x
        ∙ ap (λ (y : List ℕ). d.done ++ (y ∷ x)) (finished-is d.at d.block (fit d s) ∙ ap (λ (j : ℕ). block_of j p) z)
        ∙ ap (λ (y : List (List ℕ)). d.done ++ y) (sym (packs-next form_one m p r h e))
    go false e false f i =
        let p = written d.at d.block in
        let k : ROOM < d.at.used + length (rec_octets r) = omega (arith, leb-false (length p + length (rec_octets r)) ROOM e, written-long d s) in
        ap log_of (note-ended d s r k (ltb-false (d.at.number + 1) BLOCKS f) rs) ∙ log-last d s

none_written : (b : List ℕ) → written (tape 0 0) b ≡ []
unfolding written
none_written b = refl

-- from a blank tape and a block of any 512 octets: the log is what the records that it has room for are packed into
pub recorder-packs : (rs : List Rec) (b : List ℕ) → length b ≡ 512 → All Good rs → log_of (note_all (recorder (tape 0 0) b []) rs) ≡ pack form_one (held form_one rs)
unfolding log_of
recorder-packs [] b h g = refl
recorder-packs (r ∷ rs) b h g =
    let t = tape 0 0 in
    let n = length (rec_octets r) in
    let k : 0 + n ≤ ROOM = omega (arith, g.0.short) in
    let f : Fits t (length b) = record { long = h; room = omega arith; number = omega arith } in
    let d = recorder (tape 0 (0 + n)) (appended_to t b r) [] in
    let s : Sane d = record { some = omega arith; fits = record { long = appended-long b t r f k; room = k; number = omega arith } } in
    ap (λ (a : Result Tape NotWritten). log_of (note_by a (recorder t b []) r (λ (e : Recorder). note_all e rs))) (sym (room t b r (fitting-is t (length b) f) k).answer_is)
    ∙ notes-pack rs d s g.1
    ∙ ap (λ (x : List ℕ). pack_from form_one 0 x (held_from form_one 0 x rs)) (written-more b t r f k 0 ∙ ap (λ (x : List ℕ). x ++ rec_octets r) (none_written b))
