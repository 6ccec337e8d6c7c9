-- What a host in C is promised of its blocks. Assumes nothing.
use Prim.Native.Nat.{ℕ, ◌+◌, ◌≤◌, ◌<◌}
use mathlib.Core.Path.{◌≡◌, refl, sym, ap, ◌∙◌}
use mathlib.Core.Bool.{Bool, true, false}
use mathlib.Core.List.{List, [], ◌∷◌, ◌++◌, map, append_assoc, append-nil}
use native.Mathlib.Omega.{arith}
use borrow.Author.Tests.{eq-eqb}
use lib.Dec.{T, eqb, leb, ltb}
use lib.ListN.{length, get_or, set, length-append}
use Rattle.refusals.specs.Refusals.{OUT-OF-RANGE, NO-ROOM, CHECK-WRONG, NOT-READABLE, BAD-RECORD}
use Rattle.link.specs.Step.{rest_at}
use Rattle.link.specs.Tests.{pick}
use Rattle.link.specs.Watch.{setting_ok}
use Rattle.octets.specs.Octets.{Octets, zeros, word_at, pair_at}
use Rattle.ground_answer.specs.Record.{fresh, good}
use Rattle.ground_answer.specs.declared.record.Link.{Link}
use Rattle.ground.proofs.Keeps.{Fine}
use Rattle.bench.specs.Replies.{ready_setup}
use Rattle.host_record.specs.RecordLayout.{RECORD-OCTETS, link_of, record_octets}
use Rattle.host_record.specs.laws.Back.{record-back}
use Rattle.host_record.proofs.Puts.{length-record}
use Rattle.log_blocks.specs.Block.{BLOCK, ROOM, BLOCKS, block_of, payload, all_zero, judged}
use Rattle.log_blocks.specs.Log.{All, got, bad, joined, read_block}
use Rattle.log_blocks.specs.Record.{Rec, Good, noted, rec_octets, form_one}
use Rattle.log_blocks.proofs.Blocks.{judged-good}
use Rattle.log_blocks.proofs.FormOne.{lawful-one}
use Rattle.log_blocks.proofs.Packs.{block_reads}
use Rattle.log_blocks.proofs.Promises.{changed-refused}
use Rattle.log_blocks.proofs.Tests.{all-zeros}
use Rattle.log_play.specs.Plays.{blank, play_block, played_in}
use Rattle.host_log.specs.Recording.{Kept, kept, Keeps, empty_block, block_opened, is_open, fields_good, record_put, block_appended, block_finished, appended_all, host_block}
use Rattle.host_log.specs.Playing.{box_in, box_good, box_out, played_out, block_played}
use Rattle.host_log.proofs.Blocks.{Open, finish-there, append-there, opened-there}

-- "one possible result and one possible content of each lent buffer"
pub keeps-one : (d : Kept) (r q : ℕ) (a b : List ℕ) → Keeps d r a → Keeps d q b → (r ≡ q) × (a ≡ b)
keeps-one d r q a b x y = (x.number_is ∙ sym y.number_is, x.block_is ∙ sym y.block_is)

-- ---- a refused call leaves the block, or the record
data Left (b : List ℕ) : Kept → Type 0 where
  done : (x : List ℕ) → Left b (kept 0 x)
  stays : (n : ℕ) → Left b (kept n b)

either : {b : List ℕ} (c : Bool) {x y : Kept} → Left b x → Left b y → Left b (pick c x y)
either true f g = f
either false f g = g

left_there : {b : List ℕ} {d : Kept} → Left b d → (d.number ≡ 0 → ⊥) → d.block ≡ b
left_there (done x) h = absurd (h refl)
left_there (stays n) h = refl

pub open-leaves : (n : ℕ) (b : List ℕ) → ((block_opened n b).number ≡ 0 → ⊥) → (block_opened n b).block ≡ b
unfolding block_opened
open-leaves n b = left_there (either (ltb n BLOCKS) (either (eqb (length b) BLOCK) (done (empty_block n)) (stays NO-ROOM)) (stays OUT-OF-RANGE))

pub append-leaves : (b : List ℕ) (r : Rec) → ((block_appended b r).number ≡ 0 → ⊥) → (block_appended b r).block ≡ b
unfolding block_appended
append-leaves b r =
    let room = leb (pair_at b 4 + length (rec_octets (noted r))) ROOM in
    left_there (either (is_open b) (either (fields_good r) (either room (done (record_put b (noted r))) (stays NO-ROOM)) (stays OUT-OF-RANGE)) (stays NOT-READABLE))

pub finish-leaves : (b : List ℕ) → ((block_finished b).number ≡ 0 → ⊥) → (block_finished b).block ≡ b
unfolding block_finished
finish-leaves b = left_there (either (is_open b) (done (block_of (word_at b 0) (payload b))) (stays NOT-READABLE))

pub play-leaves : (s : List ℕ) (n : ℕ) (b : List ℕ) → ((block_played s n b).number ≡ 0 → ⊥) → (block_played s n b).block ≡ s
unfolding block_played played_out
play-leaves s n b =
    let p = played_in (box_in s) (play_block (box_in s) n b) in
    left_there (either (box_good s) (either (eqb p.refusal 0) (done (box_out p.setup s)) (stays p.refusal)) (stays BAD-RECORD))

-- ---- "A link record of 93 zeros is one that has no settings yet" (include/adsc.h)
pub zeros-blank : (box_good (zeros RECORD-OCTETS) ≡ true) × (box_in (zeros RECORD-OCTETS) ≡ blank)
unfolding box_good box_in link_of fresh rest_at
zeros-blank = (refl, refl)

-- ---- a block that is opened, takes records that fit, and is finished, is the log's block of these records
appended-joined : (rs : List Rec) (n : ℕ) (p b : List ℕ) → n < BLOCKS → Open n p b → All (λ (r : Rec). fields_good r ≡ true) rs
    → length p + length (joined form_one (map noted rs)) ≤ 504
    → Open n (p ++ joined form_one (map noted rs)) (appended_all b rs)
appended-joined [] n p b h o g k = rw append-nil o
appended-joined (r ∷ rs) n p b h o g k =
    let v = rec_octets (noted r) in
    let j = joined form_one (map noted rs) in
    let a = length-append v j in
    let l = length-append p v in
    rw (← append_assoc p v j)
    (appended-joined rs n (p ++ v) (block_appended b r).block h (append-there n p b o h (omega (arith, k)) r g.0 (omega (arith, k, a))) g.1 (omega (arith, k, a, l)))

pub host-block : (n : ℕ) (b : List ℕ) (rs : List Rec) → n < BLOCKS → length b ≡ 512 → All (λ (r : Rec). fields_good r ≡ true) rs
    → length (joined form_one (map noted rs)) ≤ 504 → host_block n b rs ≡ block_of n (joined form_one (map noted rs))
unfolding host_block
host-block n b rs h l g k =
    finish-there n (joined form_one (map noted rs)) (appended_all (block_opened n b).block rs)
    (appended-joined rs n [] (block_opened n b).block h (opened-there n b h l) g (omega (arith, k)))
    h k

-- so it is read, and each octet that is changed in it is found
module _ (n : ℕ) (b : List ℕ) (rs : List Rec) (h : n < BLOCKS) (l : length b ≡ 512) (g : All (λ (r : Rec). fields_good r ≡ true) rs) (k : length (joined form_one (map noted rs)) ≤ 504) where
  in-form : host_block n b rs ≡ block_of (0 + n) (joined form_one (map noted rs))
  in-form =
      let z : n ≡ 0 + n = omega arith in
      host-block n b rs h l g k ∙ ap (λ (j : ℕ). block_of j (joined form_one (map noted rs))) z

  pub host-reads : All Good (map noted rs) → read_block form_one n (host_block n b rs) ≡ got (map noted rs)
  host-reads f = ap (read_block form_one n) in-form ∙ block_reads form_one Good lawful-one n (map noted rs) h f k

  pub host-changed : (m i v : ℕ) → Octets (host_block n b rs) → i < 512 → v < 256 → (v ≡ get_or (host_block n b rs) i 0 → ⊥)
      → read_block form_one m (set (host_block n b rs) i v) ≡ bad CHECK-WRONG
  host-changed m i v o = changed-refused n m (host_block n b rs) i v o (ap (judged 0 n) in-form ∙ judged-good 0 n (joined form_one (map noted rs)) k h)

-- ---- a block on the record of a good link is the block on that link, and on zeros it is on a box without settings
zeros-bad : good (link_of (zeros RECORD-OCTETS)) ≡ false
unfolding good setting_ok link_of
zeros-bad = refl

module _ (l : Link) (f : Fine l) where
  good-is : good l ≡ true
  good-is = go (good l) f.fine
    where
      go : (c : Bool) → T c → c ≡ true
      go true t = refl
      go false t = absurd t

  long : length (record_octets l) ≡ RECORD-OCTETS
  long = length-record l f.lefts f.settings

  back : link_of (record_octets l) ≡ l
  back = record-back l f.settings f.lefts f.states

  not_zeros : all_zero (record_octets l) ≡ false
  not_zeros = go (all_zero (record_octets l)) refl
    where
      go : (c : Bool) → all_zero (record_octets l) ≡ c → c ≡ false
      go false e = refl
      go true e =
          let z : record_octets l ≡ zeros RECORD-OCTETS = all-zeros (record_octets l) e ∙ ap zeros long in
          let b : good l ≡ false = ap good (sym back) ∙ ap (λ (s : List ℕ). good (link_of s)) z ∙ zeros-bad in
          sym good-is ∙ b

  pub host-plays : (n : ℕ) (b : List ℕ) → block_played (record_octets l) n b ≡ played_out (played_in (ready_setup l) (play_block (ready_setup l) n b)) (record_octets l)
  unfolding block_played box_good box_in
  host-plays n b = rw (not_zeros, back, eq-eqb (length (record_octets l)) RECORD-OCTETS long, good-is)

pub host-starts : (n : ℕ) (b : List ℕ) → block_played (zeros RECORD-OCTETS) n b ≡ played_out (played_in blank (play_block blank n b)) (zeros RECORD-OCTETS)
unfolding block_played
host-starts n b = rw (zeros-blank.0, zeros-blank.1)
