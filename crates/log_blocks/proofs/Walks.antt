-- Reading a block record by record, each time at the place behind the last one. Assumes nothing.
use Prim.Native.Nat.{ℕ, zero, suc, ◌+◌, ◌-◌, ◌≤◌}
use mathlib.Core.Path.{◌≡◌, refl, sym, ap, ◌∙◌}
use mathlib.Core.Bool.{Bool, true, false}
use mathlib.Core.List.{List, []}
use native.Mathlib.Omega.{arith}
use borrow.Author.Tests.{leb-true, leb-false}
use lib.Dec.{leb}
use lib.ListN.{length, get_or, take, drop}
use Rattle.std.specs.Prelude.{Some, None, Ok, Err}
use Rattle.refusals.specs.Refusals.{NOT-READABLE}
use Rattle.octets.specs.Octets.{pair_at}
use Rattle.log_blocks.specs.Block.{judged, payload}
use Rattle.log_blocks.specs.Log.{got, bad, One, onto, then, records_in, records_of, read_block, unless}
use Rattle.log_blocks.specs.Record.{Rec, rec, Good, rec_first, form_one}
use Rattle.log_blocks.specs.declared.Found.{Found}
use Rattle.log_blocks.specs.Places.{Look, at_end, unreadable, end_of, found_at, from, seen}
use Rattle.log_blocks.proofs.Blocks.{sound}
use Rattle.log_blocks.proofs.Packs.{records-same}
use Rattle.log_blocks.proofs.FormOne.{lawful-one}
use Rattle.log_blocks.proofs.Places.{at-end, at_cut, at_long, at-past, at-record, found-seen}

-- one more record may be read than there are octets
once : (p : List ℕ) → records_of form_one p ≡ then (rec_first p) (records_in form_one (length p))
unfolding records_of
once p = records-same form_one Good lawful-one (length p) (suc (length p)) p (omega arith) (omega arith)

abbrev next_of : Look → ℕ
next_of (Ok (Some f)) = f.next
next_of (Ok None) = 0
next_of (Err e) = 0

module _ (b : List ℕ) (at : ℕ) (h : length b ≡ 512) (k : end_of b ≤ 510) where
  first-is : (f : Look) → found_at b at ≡ f → records_of form_one (from b at) ≡ then (seen b f) (records_in form_one (length (from b at)))
  first-is f e =
      once (from b at)
      ∙ ap (λ (x : One Rec). then x (records_in form_one (length (from b at)))) (sym (found-seen b at h k) ∙ ap (seen b) e)

  pub walk_end : found_at b at ≡ at_end → records_of form_one (from b at) ≡ got []
  walk_end e = first-is at_end e

  pub walk-unreadable : found_at b at ≡ unreadable → records_of form_one (from b at) ≡ bad NOT-READABLE
  walk-unreadable e = first-is unreadable e

  module _ (f : Found) (e : found_at b at ≡ Ok (Some f)) where
    rest-same : records_in form_one (length (from b at)) (from b f.next) ≡ records_of form_one (from b f.next)
    unfolding records_of
    rest-same =
        let r = rec f.kind f.seconds (take f.len (drop f.start b)) in
        let m = lawful-one.shorter (from b at) (from b f.next) r (sym (found-seen b at h k) ∙ ap (seen b) e) in
        records-same form_one Good lawful-one (length (from b at)) (length (from b f.next)) (from b f.next) (omega (arith, m)) (omega arith)

    pub walk_more : records_of form_one (from b at) ≡ onto (rec f.kind f.seconds (take f.len (drop f.start b))) (records_of form_one (from b f.next))
    walk_more = first-is (Ok (Some f)) e ∙ ap (onto (rec f.kind f.seconds (take f.len (drop f.start b)))) rest-same

    abbrev m : ℕ
    m = pair_at b 4

    abbrev n : ℕ
    n = get_or b (at + 5) 0

    room : 6 + m ≤ 510
    unfolding end_of
    room = k

    pub walk-on : (at + 6 ≤ f.next) × (f.next ≤ 510)
    walk-on = go (leb (6 + m) at) (leb (at + 6) (6 + m)) (leb n 129) (leb (at + 6 + n) (6 + m)) refl refl refl refl
      where
        go : (c d i j : Bool) → leb (6 + m) at ≡ c → leb (at + 6) (6 + m) ≡ d → leb n 129 ≡ i → leb (at + 6 + n) (6 + m) ≡ j → (at + 6 ≤ f.next) × (f.next ≤ 510)
        go true d i j u v y z =
            let q = at-end b at m h refl room (leb-true _ _ u) in
            let w : ◌≡◌ {A = ℕ} 0 1 = cc in
            absurd (omega arith)
        go false false i j u v y z =
            let q = at_cut b at m h refl room (leb-false _ _ u) (leb-false _ _ v) in
            let w : ◌≡◌ {A = ℕ} 0 1 = cc in
            absurd (omega arith)
        go false true false j u v y z =
            let q = at_long b at m h refl room (leb-false _ _ u) (leb-true _ _ v) n refl (leb-false _ _ y) in
            let w : ◌≡◌ {A = ℕ} 0 1 = cc in
            absurd (omega arith)
        go false true true false u v y z =
            let q = at-past b at m h refl room (leb-false _ _ u) (leb-true _ _ v) n refl (leb-true _ _ y) (leb-false _ _ z) in
            let w : ◌≡◌ {A = ℕ} 0 1 = cc in
            absurd (omega arith)
        go false true true true u v y z =
            let o = leb-true (at + 6 + n) (6 + m) z in
            let q = at-record b at m h refl room (leb-false _ _ u) (leb-true _ _ v) n refl (leb-true _ _ y) o in
            let w : f.next ≡ at + 6 + n = ap next_of (sym (q ∙ e)) in
            (omega (arith, w), omega (arith, w, o, room))

-- ---- a whole block
pub unread : (n : ℕ) (b : List ℕ) (e : ℕ) → e ≡ judged 0 n b → (e ≡ 0 → ⊥) → bad e ≡ read_block form_one n b
unfolding read_block
unread n b e j z = rw (← j) (go e z)
  where
    go : (i : ℕ) → (i ≡ 0 → ⊥) → bad i ≡ unless i (records_of form_one (payload b))
    go zero y = absurd (y refl)
    go (suc i) y = refl

pub ready : (n : ℕ) (b : List ℕ) → judged 0 n b ≡ 0 → (length b ≡ 512) × (end_of b ≤ 510)
unfolding end_of
ready n b j = let s = sound 0 n b j in (s.long, omega (arith, s.room))

pub all_read : (n : ℕ) (b : List ℕ) → judged 0 n b ≡ 0 → records_of form_one (from b 6) ≡ read_block form_one n b
unfolding read_block payload end_of
all_read n b j =
    let e : 6 + pair_at b 4 - 6 ≡ pair_at b 4 = omega arith in
    rw (j, e)
