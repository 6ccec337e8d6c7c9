-- What is left of the log after a record, and after a block, as laws on their definitions. Assumes nothing.
use Prim.Native.Nat.{ℕ, ◌+◌, ◌≤◌, ◌<◌, min}
use mathlib.Core.Path.{◌≡◌, refl, sym, ap, subst, ◌∙◌}
use mathlib.Core.Bool.{Bool, true, false}
use mathlib.Core.List.{List, [], ◌∷◌, ◌++◌, append-nil}
use native.Mathlib.Omega.{arith}
use borrow.Author.Tests.{eq-eqb, ne_eqb, ltb-true}
use lib.Dec.{leb}
use lib.ListN.{length, take, drop, length-take}
use lib.Seq.{sets}
use Rattle.text.specs.Text.{pick}
use Rattle.text.specs.Page.{Page, page, Writes}
use Rattle.text.proofs.Laws.{take_min}
use Rattle.link.specs.Tests as link
use Rattle.link.proofs.Laws.{no_true}
use Rattle.bench.specs.declared.reply.Setup.{Setup}
use Rattle.log_blocks.specs.declared.Tape.{Tape}
use Rattle.log_blocks.specs.declared.NotWritten.{NotWritten}
use Rattle.log_blocks.specs.declared.NotWritten.TheVariants.{Full, Ended, Refused}
use Rattle.std.specs.Prelude.{Option, Some, None, Result, Ok, Err}
use Rattle.log_blocks.specs.Block.{BLOCKS, ROOM}
use Rattle.log_blocks.specs.Record.{Rec, rec, noted, rec_octets}
use Rattle.log_blocks.specs.Tapes.{tape, written, fitting, follows, appended, appended_to, finished, finished_to, Appends, Finishes, recorder, note_by, log_of}
use Rattle.log_blocks.specs.Tapes as tapes
use Rattle.log_blocks.proofs.Blocks.{block-long}
use Rattle.log_blocks.proofs.Seals.{Fits, fits, fitting-is, room, finished-is}
use Rattle.log_blocks.proofs.Seals as seals
use Rattle.log_script.specs.declared.line.Entry.{Entry}
use Rattle.log_script.specs.declared.line.Kept.{Kept}
use Rattle.log_script.specs.declared.recorder.Recorder.{Recorder}
use Rattle.log_script.specs.Heard.{Heard, Hears, kept_in}
use Rattle.log_script.specs.Notes.{Desk, desk, ends, note_on, kept_on, line_on, desk_of, text_of, Leaves, entry_rec, settled, after_finish, Turns}

-- ---- a record that `append` was asked for
pub data-whole : (k : Kept) (o : List ℕ) (n : ℕ) → n ≡ min k.len (length o) → noted (rec k.kind k.seconds (take n o)) ≡ entry_rec k o
data-whole k o n l = ap (λ (x : List ℕ). noted (rec k.kind k.seconds x)) (ap (λ (j : ℕ). take j o) l ∙ take_min k.len o)

-- ---- what `append` answers says of the block
abbrev wrote : Result Tape NotWritten → Bool
wrote (Ok t) = true
wrote (Err e) = false

module _ (t : Tape) (b : List ℕ) (x : Rec) where
  unwritten : wrote (appended t b x) ≡ false → appended_to t b x ≡ b
  unfolding appended appended_to
  unwritten = go (fitting t (length b)) (leb (t.used + length (rec_octets x)) ROOM) (follows t)
    where
      go : (c d e : Bool)
          → wrote (link.pick c (link.pick d (Ok (tape t.number (t.used + length (rec_octets x)))) (Err (link.pick e Full Ended))) (Err Refused)) ≡ false
          → link.pick c (link.pick d (sets b (6 + t.used) (rec_octets x)) b) b ≡ b
      go true true e h = absurd (no_true h)
      go true false e h = refl
      go false d e h = refl

  -- a full block is one of this tape, and another may follow it
  full-fits : appended t b x ≡ Err Full → (fitting t (length b) ≡ true) × (follows t ≡ true)
  unfolding appended
  full-fits = go (fitting t (length b)) (leb (t.used + length (rec_octets x)) ROOM) (follows t)
    where
      none : {A : Type 0} (y : Result Tape NotWritten) → ends y ≡ true → y ≡ Err Full → A
      none y e h = absurd (no_true (sym e ∙ ap ends h))

      go : (c d e : Bool) → link.pick c (link.pick d (Ok (tape t.number (t.used + length (rec_octets x)))) (Err (link.pick e Full Ended))) (Err Refused) ≡ Err Full
          → (c ≡ true) × (e ≡ true)
      go true true e h = absurd (no_true (ap wrote h))
      go true false true h = (refl, refl)
      go true false false h = none (Err Ended) refl h
      go false d e h = none (Err Refused) refl h

-- so it is finished, and any record fits the next one
module _ (t : Tape) (b : List ℕ) (x : Rec) (short : length x.octets ≤ 129) (full : appended t b x ≡ Err Full) where
  abbrev next : Tape
  next = tape (t.number + 1) 0

  abbrev len : ℕ
  len = length (rec_octets x)

  fit : fitting t (length b) ≡ true
  fit = (full-fits t b x full).0

  more : t.number + 1 < BLOCKS
  more = ltb-true _ BLOCKS (full-fits t b x full).1

  next_is : finished t (length b) ≡ Ok (Some next)
  next_is = sym (seals.closed t b fit).answer_is ∙ ap (λ (c : Bool). Ok (link.pick c (Some next) None)) (full-fits t b x full).1

  next-long : length (finished_to t b) ≡ 512
  unfolding written
  next-long =
      ap length (finished-is t b fit)
      ∙ block-long t.number (written t b) (omega (arith, length-take t.used (drop 6 b), (fits t (length b) fit).room))

  next-wrote : appended next (finished_to t b) x ≡ Ok (tape (t.number + 1) (0 + len))
  next-wrote =
      let f : Fits next (length (finished_to t b)) = record { long = next-long; room = omega arith; number = more } in
      sym (room next (finished_to t b) x (fitting-is next _ f) (omega (arith, short))).answer_is

-- ---- a record behind what is left
pub entry-short : (k : Kept) (o : List ℕ) → length (entry_rec k o).octets ≤ 129
entry-short k o = omega (arith, length-take 129 (take k.len o))

leaves-as : {d k : Desk} (p : Page) (r : Recorder) (b out : List ℕ) → d ≡ k → Leaves k p r b out → Leaves d p r b out
leaves-as p r b out q x = subst (λ (y : Desk). Leaves y p r b out) (sym q) x

begins : (r : Recorder) (b out : List ℕ) → Leaves (desk_of r b) (page out r.at) r b out
begins r b out = record { box_is = refl; tape_is = refl; ended_is = refl; block_is = refl; page_is = record { is = refl } }

module _ (r : Recorder) (b out : List ℕ) (x : Rec) (a : Result Tape NotWritten) (left : List ℕ) (is : Appends r.tape b x a left) where
  -- the log with the record, as `append` answers
  abbrev noted-by : Result Tape NotWritten → Desk
  noted-by y = desk r.setup (note_by y (recorder r.tape b []) x (λ (l : tapes.Recorder). l)) (ends y)

  same_block : (y : Result Tape NotWritten) → a ≡ y → wrote y ≡ false → left ≡ b
  same_block y e w = is.block_is ∙ unwritten r.tape b x (ap wrote (sym is.answer_is ∙ e) ∙ w)

  noted-is : (y : Result Tape NotWritten) → a ≡ y → note_on (desk_of r b) x ≡ noted-by y
  unfolding note_on
  noted-is y e = ap noted-by (sym is.answer_is ∙ e)

  pub note-one : (a ≡ Err Full → ⊥) → (q : Recorder) → q ≡ settled r a → Leaves (note_on (desk_of r b) x) (page out r.at) q left out
  note-one n q h = go a refl
    where
      here : (y : Result Tape NotWritten) → a ≡ y → Leaves (noted-by y) (page out r.at) (settled r y) left out → Leaves (note_on (desk_of r b) x) (page out r.at) q left out
      here y e l = leaves-as _ q left out (noted-is y e) (subst (λ (z : Recorder). Leaves (noted-by y) (page out r.at) z left out) (sym (h ∙ ap (settled r) e)) l)

      go : (y : Result Tape NotWritten) → a ≡ y → Leaves (note_on (desk_of r b) x) (page out r.at) q left out
      go (Ok t) e = here (Ok t) e (record { box_is = refl; tape_is = refl; ended_is = refl; block_is = is.block_is; page_is = record { is = refl } })
      go (Err Full) e = absurd (n e)
      go (Err Ended) e =
          here (Err Ended) e (record { box_is = refl; tape_is = refl; ended_is = refl; block_is = same_block (Err Ended) e refl; page_is = record { is = refl } })
      go (Err Refused) e =
          here (Err Refused) e (record { box_is = refl; tape_is = refl; ended_is = refl; block_is = same_block (Err Refused) e refl; page_is = record { is = refl } })

  module _ (is-full : a ≡ Err Full) (short : length x.octets ≤ 129) (t : Recorder) (c after : List ℕ) (turns : Turns r left (page out r.at) t c after)
      (s : Result Tape NotWritten) (last : List ℕ) (again : Appends t.tape c x s last) (q : Recorder) (h : q ≡ settled t s) where
    abbrev B : List ℕ
    B = finished_to r.tape b

    abbrev N : Tape
    N = tape (r.tape.number + 1) 0

    full : appended r.tape b x ≡ Err Full
    full = sym is.answer_is ∙ is-full

    old-block : left ≡ b
    old-block = same_block (Err Full) is-full refl

    turned : t ≡ after_finish r t.at (Ok (Some N))
    turned = turns.recorder_is ∙ ap (after_finish r t.at) (ap (λ (z : List ℕ). finished r.tape (length z)) old-block ∙ next_is r.tape b x short full)

    new-tape : t.tape ≡ N
    new-tape = ap (λ (z : Recorder). z.tape) turned

    new-block : c ≡ B
    new-block = turns.block_is ∙ ap (finished_to r.tape) old-block

    last-is : q ≡ settled t (Ok (tape (r.tape.number + 1) (0 + length (rec_octets x))))
    last-is =
        h
        ∙ ap (settled t)
        (again.answer_is ∙ ap (λ (z : Tape). appended z c x) new-tape ∙ ap (λ (z : List ℕ). appended N z x) new-block ∙ next-wrote r.tape b x short full)

    new-page : Writes (page out r.at) (B ++ []) (page after q.at)
    new-page =
        let pen : q.at ≡ t.at = ap (λ (z : Recorder). z.at) last-is in
        let w = subst (λ (k : ℕ). Writes (page out r.at) c (page after k)) (sym pen) turns.page_is in
        subst (λ (s : List ℕ). Writes (page out r.at) s (page after q.at)) (new-block ∙ sym (append-nil B)) w

    pub note-two : Leaves (note_on (desk_of r b) x) (page out r.at) q last after
    note-two =
        let n = length (rec_octets x) in
        let z : 0 + n ≡ n = omega arith in
        leaves-as _ q last after (noted-is (Err Full) is-full)
        (record {
          box_is = ap (λ (y : Recorder). y.setup) last-is ∙ ap (λ (y : Recorder). y.setup) turned;
          tape_is = ap (λ (y : Recorder). y.tape) last-is ∙ ap (tape (r.tape.number + 1)) z;
          ended_is = ap (λ (y : Recorder). y.ended) last-is;
          block_is = again.block_is ∙ ap (λ (y : Tape). appended_to y c x) new-tape ∙ ap (λ (y : List ℕ). appended_to N y x) new-block;
          page_is = new-page;
        })

-- ---- a whole line
-- the code's recorder, with the box after the line
abbrev pub heard_by : Recorder → Setup → Recorder
heard_by r b = record { setup = b; tape = r.tape; at = r.at; ended = r.ended }

module _ (r : Recorder) (b : List ℕ) (h : Heard) (e : Entry) (o : List ℕ) (is : Hears h e o) where
  abbrev base : Desk
  base = desk_of (heard_by r e.setup) b

  by-entry : (k : Option Kept) → e.kept ≡ k → line_on (desk_of r b) h ≡ kept_on base (kept_in k o)
  unfolding line_on
  by-entry k q =
      ap (λ (x : Setup). kept_on (desk_of (heard_by r x) b) h.kept) (sym is.box_is)
      ∙ ap (kept_on base) (sym is.record_is ∙ ap (λ (x : Option Kept). kept_in x o) q)

  pub line-none : (out : List ℕ) → e.kept ≡ None → Leaves (line_on (desk_of r b) h) (page out r.at) (heard_by r e.setup) b out
  line-none out k = leaves-as _ _ b out (by-entry None k) (begins (heard_by r e.setup) b out)

  module _ (k : Kept) (some : e.kept ≡ Some k) where
    by_end : (n : Bool) → r.ended ≡ n → line_on (desk_of r b) h ≡ pick n base (note_on base (entry_rec k o))
    by_end n q = by-entry (Some k) some ∙ ap (λ (x : Bool). pick x base (note_on base (entry_rec k o))) q

    pub line-ended : (out : List ℕ) → r.ended ≡ true → Leaves (line_on (desk_of r b) h) (page out r.at) (heard_by r e.setup) b out
    line-ended out n = leaves-as _ _ b out (by_end true n) (begins (heard_by r e.setup) b out)

    pub line-noted : (p : Page) (q : Recorder) (left after : List ℕ) → r.ended ≡ false → Leaves (note_on base (entry_rec k o)) p q left after
        → Leaves (line_on (desk_of r b) h) p q left after
    line-noted p q left after n x = leaves-as p q left after (by_end false n) x

-- ---- the end of the log
module _ (r : Recorder) (b out : List ℕ) where
  -- what is written, as the block has a record or none
  abbrev Closes : Bool → ℕ → List ℕ → Type 0
  Closes c a after = Writes (page out r.at) (text_of (link.pick c [] (finished_to r.tape b ∷ []))) (page after a)

  pub close-none : r.tape.used ≡ 0 → Writes (page out r.at) (text_of (log_of (desk_of r b).log)) (page out r.at)
  unfolding log_of
  close-none e = subst (λ (c : Bool). Closes c r.at out) (sym (eq-eqb _ 0 e)) (record { is = refl })

  pub close-last : (r.tape.used ≡ 0 → ⊥) → (q : Recorder) (left after : List ℕ) → Turns r b (page out r.at) q left after
      → Writes (page out r.at) (text_of (log_of (desk_of r b).log)) (page after q.at)
  unfolding log_of
  close-last e q left after h =
      let B = finished_to r.tape b in
      let w = subst (λ (s : List ℕ). Writes (page out r.at) s (page after q.at)) (h.block_is ∙ sym (append-nil B)) h.page_is in
      subst (λ (c : Bool). Closes c q.at after) (sym (ne_eqb _ 0 e)) w
