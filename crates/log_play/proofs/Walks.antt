-- One turn of the play over a block's records. Assumes nothing.
use Prim.Native.Nat.{ℕ, zero, suc, ◌+◌, ◌-◌, ◌≤◌}
use mathlib.Core.Path.{◌≡◌, refl, sym, ap, ◌∙◌}
use mathlib.Core.Bool.{Bool, true, false}
use mathlib.Core.List.{List, [], ◌∷◌}
use native.Mathlib.Omega.{arith}
use borrow.Author.Tests.{leb-true}
use lib.Dec.{eqb, leb}
use lib.ListN.{length, get_or, take, drop}
use Rattle.ground_answer.specs.declared.answer.Answer.{Answer}
use Rattle.bench.specs.declared.reply.Setup.{Setup}
use Rattle.refusals.specs.Refusals.{NOT-READABLE}
use Rattle.link.specs.Tests.{pick}
use Rattle.octets.specs.Octets.{word_at}
use Rattle.log_blocks.specs.Block.{judged, payload}
use Rattle.log_blocks.specs.Log.{Read, got, bad, One, one, none, cut, onto, then, records_in, records_of, read_block, unless}
use Rattle.log_blocks.specs.Record.{Rec, rec, KEPT, rec_first, form_one}
use Rattle.log_blocks.specs.Play.{Step, went, refused, Trace, behind, stepped, with_records, play}
use Rattle.log_blocks.specs.declared.Found.{Found}
use Rattle.std.specs.Prelude.{Some, None, Ok, Err}
use Rattle.log_blocks.specs.Places.{Look, at_record, at_end, unreadable, end_of, found_at, from}
use Rattle.log_blocks.proofs.Walks.{walk_end, walk-unreadable, walk_more, unread, all_read}
use Rattle.log_play.specs.Steps.{step_of, came_with}
use Rattle.log_play.specs.declared.block.Played.{Played}
use Rattle.log_play.specs.declared.record.Stepped.{Stepped}
use Rattle.log_play.specs.Plays.{step_in, stepped_by, played_in, play_block}

-- a part of what was found
abbrev part : (Found → ℕ) → Look → ℕ
part f (Ok (Some y)) = f y
part f (Ok None) = 0
part f (Err u) = 0

-- where a record's data stands, and that it is short
pub data-place : (b : List ℕ) (at : ℕ) (r : Found) → found_at b at ≡ Ok (Some r) → (r.next ≡ r.start + r.len) × (r.len ≤ KEPT)
unfolding found_at
data-place b at r = go (eqb (length b) 512) (leb (end_of b) 510) (leb (end_of b) at) (leb (at + 6) (end_of b)) (leb n 129) (leb (at + 6 + n) (end_of b)) refl
  where
    n : ℕ
    n = get_or b (at + 5) 0

    unread-not : unreadable ≡ Ok (Some r) → ⊥
    unread-not e = let z : ◌≡◌ {A = ℕ} 0 1 = cc in omega arith

    no_end : at_end ≡ Ok (Some r) → ⊥
    no_end e = let z : ◌≡◌ {A = ℕ} 0 1 = cc in omega arith

    go : (c d f g h i : Bool) → leb n KEPT ≡ h
        → pick c (pick d (pick f at_end (pick g (pick h (pick i (at_record (get_or b at 0) (word_at b (at + 1)) (at + 6) n (at + 6 + n)) unreadable) unreadable) unreadable)) unreadable) unreadable ≡ Ok (Some r)
        → (r.next ≡ r.start + r.len) × (r.len ≤ KEPT)
    go false d f g h i j e = absurd (unread-not e)
    go true false f g h i j e = absurd (unread-not e)
    go true true true g h i j e = absurd (no_end e)
    go true true false false h i j e = absurd (unread-not e)
    go true true false true false i j e = absurd (unread-not e)
    go true true false true true false j e = absurd (unread-not e)
    go true true false true true true j e =
        let p : at + 6 ≡ r.start = ap (part (λ y. y.start)) e in
        let q : n ≡ r.len = ap (part (λ y. y.len)) e in
        let w : at + 6 + n ≡ r.next = ap (part (λ y. y.next)) e in
        (sym w ∙ omega (arith, p, q), omega (arith, q, leb-true n KEPT j))

-- a reading is refused with 20 alone
onto-bad : (r : Rec) (y : Read (List Rec)) (e : ℕ) → onto r y ≡ bad e → y ≡ bad e
onto-bad r (got rs) e h = let z : ◌≡◌ {A = ℕ} 0 1 = cc in absurd (omega arith)
onto-bad r (bad i) e h = let z : i ≡ e = cc in ap bad z

reads-20 : (k : ℕ) (p : List ℕ) (e : ℕ) → records_in form_one k p ≡ bad e → e ≡ 20
reads-20 zero p e h = go (eqb (length p) 0) h
  where
    go : (c : Bool) → ◌≡◌ {A = Read (List Rec)} (pick c (got []) (bad NOT-READABLE)) (bad e) → e ≡ 20
    go true i = let z : ◌≡◌ {A = ℕ} 0 1 = cc in absurd (omega arith)
    go false i = cc
reads-20 (suc k) p e h = go (rec_first p) h (λ q. reads-20 k q e)
  where
    go : (x : One Rec) → then x (records_in form_one k) ≡ bad e → ((q : List ℕ) → records_in form_one k q ≡ bad e → e ≡ 20) → e ≡ 20
    go (one r rest) i f = f rest (onto-bad r (records_in form_one k rest) e i)
    go none i f = let z : ◌≡◌ {A = ℕ} 0 1 = cc in absurd (omega arith)
    go cut i f = cc

pub played-behind : (b : Setup) (l : List Answer) (x : Read (Trace Setup Answer)) → played_in b (behind l x) ≡ played_in b x
unfolding played_in
played-behind b l (got t) = refl
played-behind b l (bad e) = refl

behind-bad : (l : List Answer) (x : Read (Trace Setup Answer)) (e : ℕ) → behind l x ≡ bad e → x ≡ bad e
behind-bad l (got t) e h = let z : ◌≡◌ {A = ℕ} 0 1 = cc in absurd (omega arith)
behind-bad l (bad i) e h = let z : i ≡ e = cc in ap bad z

-- what is left of a block's play from a place on
module _ (b : List ℕ) (at : ℕ) (h : length b ≡ 512) (room : end_of b ≤ 510) (o s : Setup) where
  abbrev pub rest : ℕ → Setup → Played
  rest x t = played_in o (with_records (records_of form_one (from b x)) (play step_of t))

  pub turn_end : found_at b at ≡ at_end → rest at s ≡ record { refusal = 0; setup = s }
  unfolding played_in
  turn_end e = ap (λ (y : Read (List Rec)). played_in o (with_records y (play step_of s))) (walk_end b at h room e)

  pub turn-unreadable : found_at b at ≡ unreadable → rest at s ≡ played_in o (bad NOT-READABLE)
  turn-unreadable e = ap (λ (y : Read (List Rec)). played_in o (with_records y (play step_of s))) (walk-unreadable b at h room e)

  module _ (f : Found) (e : found_at b at ≡ Ok (Some f)) where
    abbrev R : Rec
    R = rec f.kind f.seconds (take f.len (drop f.start b))

    abbrev tail : Read (List Rec)
    tail = records_of form_one (from b f.next)

    one_more : rest at s ≡ played_in o (with_records (onto R tail) (play step_of s))
    one_more =
        ap (λ (y : Read (List Rec)). played_in o (with_records y (play step_of s))) (walk_more b at h room f e)

    pub turn-refused : (stepped_by s R).went ≡ false → rest at s ≡ played_in o (bad NOT-READABLE)
    unfolding stepped_by step_in records_of
    turn-refused q = one_more ∙ go (step_of s R) refl q tail refl
      where
        go : (z : Step Setup Answer) → step_of s R ≡ z → (step_in s (length (came_with s R)) z).went ≡ false → (y : Read (List Rec)) → tail ≡ y
            → played_in o (with_records (onto R y) (play step_of s)) ≡ played_in o (bad NOT-READABLE)
        go (went t w) i j y q = let u : ◌≡◌ {A = ℕ} 0 1 = cc in absurd (omega arith)
        go refused i j (got rs) q = rw i
        go refused i j (bad m) q = ap (λ (u : ℕ). played_in o (bad u)) (reads-20 (length (from b f.next)) (from b f.next) m q)

    pub turn-went : (stepped_by s R).went ≡ true → rest at s ≡ rest f.next (stepped_by s R).setup
    unfolding stepped_by step_in
    turn-went q = one_more ∙ go (step_of s R) refl q tail
      where
        go : (z : Step Setup Answer) → step_of s R ≡ z → (step_in s (length (came_with s R)) z).went ≡ true → (y : Read (List Rec))
            → played_in o (with_records (onto R y) (play step_of s)) ≡ played_in o (with_records y (play step_of (step_in s (length (came_with s R)) z).setup))
        go refused i j y = let u : ◌≡◌ {A = ℕ} 0 1 = cc in absurd (omega arith)
        go (went t w) i j (got rs) = rw i (played-behind o (w ∷ []) (play step_of t rs))
        go (went t w) i j (bad m) = refl

    -- the same of what the code gives, with the data where it stands
    part_same : take (f.next - f.start) (drop f.start b) ≡ take f.len (drop f.start b)
    part_same = let n : f.next - f.start ≡ f.len = omega (arith, data-place b at f e) in ap (λ (j : ℕ). take j (drop f.start b)) n

    module _ (r : Stepped) (is : r ≡ stepped_by s (rec f.kind f.seconds (take (f.next - f.start) (drop f.start b)))) where
      is-step : r ≡ stepped_by s R
      is-step = is ∙ ap (λ (y : List ℕ). stepped_by s (rec f.kind f.seconds y)) part_same

      pub turn-stays : r.went ≡ false → played_in o (bad NOT-READABLE) ≡ rest at s
      turn-stays q = sym (turn-refused (ap (λ (y : Stepped). y.went) (sym is-step) ∙ q))

      pub turn-goes : r.went ≡ true → rest f.next r.setup ≡ rest at s
      turn-goes q = ap (λ (y : Stepped). rest f.next y.setup) is-step ∙ sym (turn-went (ap (λ (y : Stepped). y.went) (sym is-step) ∙ q))

-- ---- a whole block
module _ (o : Setup) (n : ℕ) (b : List ℕ) where
  pub block_refused : (e : ℕ) → e ≡ judged 0 n b → (e ≡ 0 → ⊥) → played_in o (bad e) ≡ played_in o (play_block o n b)
  unfolding play_block
  block_refused e j z = ap (λ (y : Read (List Rec)). played_in o (with_records y (play step_of o))) (unread n b e j z)

  pub block_read : judged 0 n b ≡ 0 → played_in o (with_records (records_of form_one (from b 6)) (play step_of o)) ≡ played_in o (play_block o n b)
  unfolding play_block
  block_read j = ap (λ (y : Read (List Rec)). played_in o (with_records y (play step_of o))) (all_read n b j)

  -- a refusal has a number
  pub refused-number : (e : ℕ) → play_block o n b ≡ bad e → e ≡ 0 → ⊥
  unfolding play_block read_block records_of
  refused-number e = go (judged 0 n b)
    where
      played : (rs : List Rec) (s : Setup) → play step_of s rs ≡ bad e → e ≡ 0 → ⊥
      played [] s i z = let u : ◌≡◌ {A = ℕ} 0 1 = cc in omega arith
      played (r ∷ rs) s i z = step (step_of s r) i (λ t. played rs t)
        where
          step : (x : Step Setup Answer) → stepped x (λ (t : Setup). play step_of t rs) ≡ bad e → ((t : Setup) → play step_of t rs ≡ bad e → e ≡ 0 → ⊥) → ⊥
          step (went t a) j f = f t (behind-bad (a ∷ []) (play step_of t rs) e j) z
          step refused j f = let u : NOT-READABLE ≡ e = cc in omega (arith, u, z)

      go : (k : ℕ) → with_records (unless k (records_in form_one (length (payload b)) (payload b))) (play step_of o) ≡ bad e → e ≡ 0 → ⊥
      go zero i z = records (records_in form_one (length (payload b)) (payload b)) refl i z
        where
          records : (y : Read (List Rec)) → records_in form_one (length (payload b)) (payload b) ≡ y → with_records y (play step_of o) ≡ bad e → e ≡ 0 → ⊥
          records (got rs) q i z = played rs o i z
          records (bad m) q i z = let u : m ≡ e = cc in omega (arith, u, z, reads-20 (length (payload b)) (payload b) m q)
      go (suc k) i z = let u : suc k ≡ e = cc in omega (arith, u, z)
