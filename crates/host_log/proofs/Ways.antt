-- The ways out of a call on a lent block or record, one law each. Assumes nothing.
use Prim.Native.Nat.{ℕ, ◌+◌, ◌-◌, ◌≤◌, ◌<◌}
use mathlib.Core.Path.{◌≡◌, refl, ap, ◌∙◌}
use mathlib.Core.Bool.{Bool, true, false}
use mathlib.Core.List.{List, ◌++◌, append-nil}
use native.Mathlib.Omega.{arith}
use borrow.Author.Tests.{eq-eqb, ne_eqb, lt-ltb, le-ltb, leb-true, eqb-true}
use lib.Dec.{eqb, leb}
use lib.ListN.{length, get_or, length-append, drop_of_length-le}
use lib.Seq.{sets, sets-eq}
use Rattle.link.specs.Tests.{pick}
use Rattle.octets.specs.Octets.{quad, pair, pair_at, zeros}
use Rattle.octets.specs.laws.Runs.{length-zeros, sets-append}
use Rattle.script.specs.Fields.{held_in}
use Rattle.script.specs.declared.line.Held.{Held}
use Rattle.script.specs.declared.line.Held.TheVariants as held
use Rattle.script.specs.Lines.{shapes_of}
use Rattle.bench_line.specs.Words.{ground_words}
use Rattle.ground_answer.specs.Record.{good}
use Rattle.host_record.specs.RecordLayout.{RECORD-OCTETS, link_of, saved}
use Rattle.log_blocks.specs.Block.{BLOCKS, ROOM, all_zero, payload, block_of}
use Rattle.log_blocks.specs.Record.{Rec, rec, noted, rec_octets}
use Rattle.log_blocks.specs.Tapes.{tape, written, fitting, appended, appended_to, follows, finished, finished_to, Appends, Finishes}
use Rattle.log_blocks.specs.declared.Tape.{Tape}
use Rattle.log_blocks.specs.declared.NotWritten.{NotWritten}
use Rattle.log_blocks.specs.declared.NotWritten.TheVariants.{Full, Ended, Refused}
use Rattle.log_blocks.specs.declared.Unfit.{Unfit}
use Rattle.std.specs.Prelude.{Option, Some, None, Result, Ok, Err}
use Rattle.log_play.specs.Steps.{field_in, SETTINGS-OCTETS}
use Rattle.log_play.specs.Plays.{play_block, played_in}
use Rattle.log_play.specs.declared.block.Played.{Played}
use Rattle.host_log.specs.Recording.{Keeps, empty_block, block_opened, tape_in, is_open, readable, fields_good, record_put, block_appended, block_finished}
use Rattle.host_log.specs.Playing.{box_in, box_good, box_out, played_out, block_played}

-- ---- what an answer is not, by the arms of a match that did not take it
pub was-held : (d : List ℕ) (h : Held) → (h ≡ held.Unread → ⊥) → true ≡ readable (held_in h d)
unfolding held_in
was-held d held.Unread k = absurd (k refl)
was-held d (held.Octets n) k = refl
was-held d (held.Number n) k = refl

-- what is written is no more than a block has room for
pub wrote-small : (t : Tape) (b : List ℕ) (r : Rec) (u : Tape) (x : List ℕ) → Appends t b r (Ok u) x → u.used ≤ 504
unfolding appended
wrote-small t b r u x a = go (fitting t (length b)) (leb (t.used + length (rec_octets r)) ROOM) refl (follows t) a.answer_is
  where
    go : (c d : Bool) → leb (t.used + length (rec_octets r)) ROOM ≡ d → (f : Bool)
        → Ok u ≡ pick c (pick d (Ok (tape t.number (t.used + length (rec_octets r)))) (Err (pick f Full Ended))) (Err Refused) → u.used ≤ 504
    go true true e f q =
        let m : u ≡ tape t.number (t.used + length (rec_octets r)) = cc in
        rw m (leb-true (t.used + length (rec_octets r)) ROOM e)
    go true false e true q = absurd (let z : ◌≡◌ {A = ℕ} 0 1 = cc in omega arith)
    go true false e false q = absurd (let z : ◌≡◌ {A = ℕ} 0 1 = cc in omega arith)
    go false d e f q = absurd (let z : ◌≡◌ {A = ℕ} 0 1 = cc in omega arith)

-- ---- a new block
module _ (n : ℕ) (b : List ℕ) where
  pub at-end : BLOCKS ≤ n → Keeps (block_opened n b) 5 b
  unfolding block_opened
  at-end h = rw (le-ltb n BLOCKS h) (record { number_is = refl; block_is = refl })

  module _ (h : n < BLOCKS) where
    pub no_block : (length b ≡ 512 → ⊥) → Keeps (block_opened n b) 6 b
    unfolding block_opened
    no_block k = rw (lt-ltb n BLOCKS h, ne_eqb (length b) 512 k) (record { number_is = refl; block_is = refl })

    module _ (k : length b ≡ 512) where
      empty-put : sets (sets b 0 (quad n)) 4 (zeros 508) ≡ empty_block n
      empty-put =
          let v : List ℕ = quad n ++ zeros 508 in
          let l : length v ≡ 512 = length-append (quad n) (zeros 508) ∙ omega (arith, length-zeros 508) in
          let m : length b ≤ 0 + length v = omega (arith, l) in
          sets-append (quad n) (zeros 508) b 0 4 refl
          ∙ sets-eq v b 0 (omega (arith, l))
          ∙ ap (λ (s : List ℕ). v ++ s) (drop_of_length-le b m)
          ∙ append-nil v

      pub is-opened : (x : List ℕ) → x ≡ sets (sets b 0 (quad n)) 4 (zeros (512 - 4)) → Keeps (block_opened n b) 0 x
      unfolding block_opened
      is-opened x e = rw (lt-ltb n BLOCKS h, eq-eqb (length b) 512 k) (record { number_is = refl; block_is = e ∙ empty-put })

-- ---- the fields of a record
module _ (k s : ℕ) (d : List ℕ) where
  pub settings-timed : k ≡ 0 → (s ≡ 0 → ⊥) → false ≡ fields_good (rec k s d)
  unfolding fields_good
  settings-timed e h = rw (eq-eqb k 0 e, ne_eqb s 0 h)

  pub settings-sized : k ≡ 0 → s ≡ 0 → (c : Bool) → c ≡ eqb (length d) SETTINGS-OCTETS → c ≡ fields_good (rec k s d)
  unfolding fields_good
  settings-sized e h c f = rw (eq-eqb k 0 e, eq-eqb s 0 h, ← f)

  pub held-fields : (shape : ℕ) (h : Held) → (k ≡ 0 → ⊥) → shape ≡ get_or (shapes_of ground_words) (k + 1) 0 → held_in h d ≡ field_in shape s d → readable (held_in h d) ≡ fields_good (rec k s d)
  unfolding fields_good
  held-fields shape h n e f = ap readable (f ∙ ap (λ (x : ℕ). field_in x s d) e) ∙ rw (ne_eqb k 0 n)

-- ---- a record
module _ (b : List ℕ) (r : Rec) where
  pub not-open : is_open b ≡ false → Keeps (block_appended b r) 20 b
  unfolding block_appended
  not-open h = rw h (record { number_is = refl; block_is = refl })

  module _ (h : is_open b ≡ true) where
    pub not-fields : fields_good r ≡ false → Keeps (block_appended b r) 5 b
    unfolding block_appended
    not-fields f = rw (h, f) (record { number_is = refl; block_is = refl })

    module _ (f : fields_good r ≡ true) where
      -- what `append` answers of an open block
      appended-so : (c : Bool) → leb (pair_at b 4 + length (rec_octets (noted r))) ROOM ≡ c
          → appended (tape_in b) b (noted r)
          ≡ pick c (Ok (tape (tape_in b).number (pair_at b 4 + length (rec_octets (noted r))))) (Err (pick (follows (tape_in b)) Full Ended))
      unfolding appended is_open
      appended-so c e = rw (h, e)

      stored-so : leb (pair_at b 4 + length (rec_octets (noted r))) ROOM ≡ true → appended_to (tape_in b) b (noted r) ≡ sets b (6 + pair_at b 4) (rec_octets (noted r))
      unfolding appended_to is_open
      stored-so e = rw (h, e)

      kept-so : leb (pair_at b 4 + length (rec_octets (noted r))) ROOM ≡ false → appended_to (tape_in b) b (noted r) ≡ b
      unfolding appended_to is_open
      kept-so e = rw (h, e)

      pub took : (t : Tape) (x y : List ℕ) → Appends (tape_in b) b (noted r) (Ok t) x → y ≡ sets x 4 (pair t.used) → Keeps (block_appended b r) 0 y
      unfolding block_appended record_put
      took t x y a e = go (leb (pair_at b 4 + length (rec_octets (noted r))) ROOM) refl
        where
          u : ℕ
          u = pair_at b 4 + length (rec_octets (noted r))

          go : (c : Bool) → leb u ROOM ≡ c → Keeps (block_appended b r) 0 y
          go true c =
              let w : Ok t ≡ Ok (tape (tape_in b).number u) = a.answer_is ∙ appended-so true c in
              let m : t ≡ tape (tape_in b).number u = cc in
              rw (h, f, c)
              (record { number_is = refl; block_is = e ∙ ap (λ (s : Tape). sets x 4 (pair s.used)) m ∙ ap (λ (s : List ℕ). sets s 4 (pair u)) (a.block_is ∙ stored-so c) })
          go false c = absurd (no-wrote (follows (tape_in b)) (a.answer_is ∙ appended-so false c))
            where
              no-wrote : (d : Bool) → Ok t ≡ Err (pick d Full Ended) → ⊥
              no-wrote true q = let z : ◌≡◌ {A = ℕ} 0 1 = cc in omega arith
              no-wrote false q = let z : ◌≡◌ {A = ℕ} 0 1 = cc in omega arith

      pub no_room : (a : Result Tape NotWritten) (x : List ℕ) → Appends (tape_in b) b (noted r) a x → ((t : Tape) → a ≡ Ok t → ⊥) → Keeps (block_appended b r) 6 x
      unfolding block_appended
      no_room a x p n = go (leb (pair_at b 4 + length (rec_octets (noted r))) ROOM) refl
        where
          u : ℕ
          u = pair_at b 4 + length (rec_octets (noted r))

          go : (c : Bool) → leb u ROOM ≡ c → Keeps (block_appended b r) 6 x
          go true c = absurd (n (tape (tape_in b).number u) (p.answer_is ∙ appended-so true c))
          go false c = rw (h, f, c) (record { number_is = refl; block_is = p.block_is ∙ kept-so c })

-- ---- the end of a block
module _ (b : List ℕ) where
  finished-so : (c : Bool) → is_open b ≡ c → finished (tape_in b) (length b) ≡ pick c (Ok (pick (follows (tape_in b)) (Some (tape ((tape_in b).number + 1) 0)) None)) (Err (record {}))
  unfolding finished is_open
  finished-so c h = rw h

  closed-so : is_open b ≡ true → finished_to (tape_in b) b ≡ block_of (tape_in b).number (payload b)
  unfolding finished_to is_open written payload
  closed-so h = rw h

  left_so : is_open b ≡ false → finished_to (tape_in b) b ≡ b
  unfolding finished_to is_open
  left_so h = rw h

  pub is-finished : (f : Result (Option Tape) Unfit) (x : List ℕ) → Finishes (tape_in b) b f x → (f ≡ Err (record {}) → ⊥) → Keeps (block_finished b) 0 x
  unfolding block_finished
  is-finished f x p n = go (is_open b) refl
    where
      go : (c : Bool) → is_open b ≡ c → Keeps (block_finished b) 0 x
      go true h = rw h (record { number_is = refl; block_is = p.block_is ∙ closed-so h })
      go false h = absurd (n (p.answer_is ∙ finished-so false h))

  pub not-finished : (x : List ℕ) → Finishes (tape_in b) b (Err (record {})) x → Keeps (block_finished b) 20 x
  unfolding block_finished
  not-finished x p = go (is_open b) refl
    where
      fit : (d : Bool) → (u : Unfit) → ◌≡◌ {A = Result (Option Tape) Unfit} (Err u) (Ok (pick d (Some (tape ((tape_in b).number + 1) 0)) None)) → ⊥
      fit true u q = let z : ◌≡◌ {A = ℕ} 0 1 = cc in omega arith
      fit false u q = let z : ◌≡◌ {A = ℕ} 0 1 = cc in omega arith

      go : (c : Bool) → is_open b ≡ c → Keeps (block_finished b) 20 x
      go false h = rw h (record { number_is = refl; block_is = p.block_is ∙ left_so h })
      go true h = absurd (fit (follows (tape_in b)) _ (p.answer_is ∙ finished-so true h))

-- ---- a record of the link
module _ (s : List ℕ) where
  pub no_record : (length s ≡ RECORD-OCTETS → ⊥) → false ≡ box_good s
  unfolding box_good
  no_record h = rw (ne_eqb (length s) RECORD-OCTETS h)

  pub of-zeros : length s ≡ RECORD-OCTETS → all_zero s ≡ true → true ≡ box_good s
  unfolding box_good
  of-zeros h z = rw (eq-eqb (length s) RECORD-OCTETS h, z)

  pub of-link : length s ≡ RECORD-OCTETS → all_zero s ≡ false → (c : Bool) → c ≡ good (link_of s) → c ≡ box_good s
  unfolding box_good
  of-link h z c e = rw (eq-eqb (length s) RECORD-OCTETS h, z, ← e)

  pub good-long : box_good s ≡ true → length s ≡ RECORD-OCTETS
  unfolding box_good
  good-long h = go (eqb (length s) RECORD-OCTETS) refl h
    where
      go : (c : Bool) → eqb (length s) RECORD-OCTETS ≡ c → pick c (pick (all_zero s) true (good (link_of s))) false ≡ true → length s ≡ RECORD-OCTETS
      go true e q = eqb-true (length s) RECORD-OCTETS e
      go false e q = absurd (let z : ◌≡◌ {A = ℕ} 0 1 = cc in omega arith)

  module _ (n : ℕ) (b : List ℕ) where
    pub bad-record : box_good s ≡ false → Keeps (block_played s n b) 29 s
    unfolding block_played
    bad-record h = rw h (record { number_is = refl; block_is = refl })

    module _ (h : box_good s ≡ true) (p : Played) (e : p ≡ played_in (box_in s) (play_block (box_in s) n b)) where
      pub not-played : (p.refusal ≡ 0 → ⊥) → Keeps (block_played s n b) p.refusal s
      unfolding block_played played_out
      not-played k = rw (h, ← e, ne_eqb p.refusal 0 k) (record { number_is = refl; block_is = refl })

      module _ (k : p.refusal ≡ 0) where
        pub played-ready : p.setup.ready ≡ true → (x : List ℕ) → x ≡ saved p.setup.link s → Keeps (block_played s n b) 0 x
        unfolding block_played played_out box_out saved
        played-ready q x f = rw (h, ← e, eq-eqb p.refusal 0 k, q) (record { number_is = refl; block_is = f ∙ rw (eq-eqb (length s) RECORD-OCTETS (good-long h)) })

        pub played-blank : p.setup.ready ≡ false → Keeps (block_played s n b) 0 s
        unfolding block_played played_out box_out
        played-blank q = rw (h, ← e, eq-eqb p.refusal 0 k, q) (record { number_is = refl; block_is = refl })
