-- The line of a record, and the lines of a block, as laws. Assumes nothing.
use Prim.Native.Nat.{ℕ, ◌-◌, ◌≤◌, min}
use mathlib.Core.Path.{◌≡◌, refl, sym, ap, ◌∙◌}
use mathlib.Core.List.{List, [], ◌∷◌, ◌++◌}
use native.Mathlib.Omega.{arith}
use lib.ListN.{length, take, drop, length-append, length-take}
use Rattle.text.specs.Text.{decimal}
use Rattle.text.specs.Page.{Page, Writes}
use Rattle.text.proofs.Laws.{take_min, decimal-length}
use Rattle.text.proofs.Pages.{after}
use Rattle.script.specs.Trace.{bumped, Adds}
use Rattle.bench_line.specs.AnswerText.{answer_text, Answers}
use Rattle.bench.specs.declared.reply.Setup.{Setup}
use Rattle.log_blocks.specs.Log.{Read, got, bad, onto, records_of}
use Rattle.log_blocks.specs.Record.{Rec, rec, form_one}
use Rattle.log_blocks.specs.Places.{at_end, unreadable, end_of, found_at, from}
use Rattle.log_blocks.specs.declared.Found.{Found}
use Rattle.std.specs.Prelude.{Some, Ok}
use Rattle.log_blocks.proofs.Walks.{walk_end, walk-unreadable, walk_more}
use Rattle.log_play.specs.Plays.{stepped_by}
use Rattle.log_play.specs.declared.record.Stepped.{Stepped}
use Rattle.log_play.proofs.Walks.{data-place}
use Rattle.log_bench.specs.Shown.{record_reply, count_on, box_on, Shows}

-- ---- a line
module _ (b : Setup) (r : Rec) (s : Stepped) (m n number : ℕ) (is : s ≡ stepped_by b r) (least : m ≡ min s.came (length r.octets)) (k : number ≡ n) where
  abbrev answer : List ℕ
  answer = answer_text s.said (take m r.octets)

  abbrev line : List ℕ
  line = decimal number ++ ((32 ∷ []) ++ (answer ++ (10 ∷ [])))

  came-is : take m r.octets ≡ take s.came r.octets
  came-is = ap (λ (j : ℕ). take j r.octets) least ∙ take_min s.came r.octets

  line_is : line ≡ (record_reply n b r).text
  unfolding record_reply
  line_is = rw (k, came-is, is)

  line-length : length answer ≤ 33000 → length line ≤ 34100
  line-length h =
      omega (arith, length-append (decimal number) ((32 ∷ []) ++ (answer ++ (10 ∷ []))), length-append answer (10 ∷ []), decimal-length number)

  pub record-adds : {p p1 p2 p3 q : Page} → length r.octets ≤ 129 → Writes p (decimal number) p1 → Writes p1 (32 ∷ []) p2 → Answers s.said (take m r.octets) p2 p3
      → Writes p3 (10 ∷ []) q → Adds p n (record_reply n b r) number s.setup q
  unfolding record_reply
  record-adds few d y a z =
      let t = line-length (a.short (omega (arith, few, length-take m r.octets))) in
      record {
        number_is = k;
        box_is = ap (λ (x : Stepped). x.setup) is;
        text_is = rw line_is at (after d (after y (after a.text_is z)));
        short = rw line_is at t;
      }

-- ---- a block, record by record
module _ (b : List ℕ) (at : ℕ) (h : length b ≡ 512) (room : end_of b ≤ 510) (n : ℕ) (s : Setup) where
  pub shows-end : found_at b at ≡ at_end → Shows (from b at) n s n s
  shows-end e = record { is = λ rs q. none rs (sym (walk_end b at h room e) ∙ q) }
    where
      none : (rs : List Rec) → ◌≡◌ {A = Read (List Rec)} (got []) (got rs) → (n ≡ count_on n rs) × (s ≡ box_on s rs)
      none rs q = let z : rs ≡ [] = cc in rw z (refl, refl)

  pub shows-unreadable : (m : ℕ) (t : Setup) → found_at b at ≡ unreadable → Shows (from b at) n s m t
  shows-unreadable m t e = record { is = λ rs q. none rs (sym (walk-unreadable b at h room e) ∙ q) }
    where
      none : (rs : List Rec) → ◌≡◌ {A = Read (List Rec)} (bad 20) (got rs) → (m ≡ count_on n rs) × (t ≡ box_on s rs)
      none rs q = let z : ◌≡◌ {A = ℕ} 0 1 = cc in absurd (omega arith)

  module _ (f : Found) (e : found_at b at ≡ Ok (Some f)) where
    abbrev R : Rec
    R = rec f.kind f.seconds (take (f.next - f.start) (drop f.start b))

    pub data-few : length (take (f.next - f.start) (drop f.start b)) ≤ 129
    data-few = omega (arith, length-take (f.next - f.start) (drop f.start b), data-place b at f e)

    next_is : records_of form_one (from b at) ≡ onto R (records_of form_one (from b f.next))
    next_is =
        let i : f.len ≡ f.next - f.start = omega (arith, data-place b at f e) in
        walk_more b at h room f e ∙ ap (λ (j : ℕ). onto (rec f.kind f.seconds (take j (drop f.start b))) (records_of form_one (from b f.next))) i

    pub shows-record : (n₁ m : ℕ) (s₁ t : Setup) → n₁ ≡ bumped n → s₁ ≡ (stepped_by s R).setup → Shows (from b f.next) n₁ s₁ m t → Shows (from b at) n s m t
    shows-record n₁ m s₁ t i j d = record { is = λ rs q. more (records_of form_one (from b f.next)) refl rs (sym next_is ∙ q) }
      where
        more : (y : Read (List Rec)) → records_of form_one (from b f.next) ≡ y → (rs : List Rec) → onto R y ≡ got rs → (m ≡ count_on n rs) × (t ≡ box_on s rs)
        more (got ys) g rs q =
            let z : rs ≡ R ∷ ys = cc in
            let w = d.is ys g in
            rw z (w.0 ∙ ap (λ (u : ℕ). count_on u ys) i, w.1 ∙ ap (λ (u : Setup). box_on u ys) j)
        more (bad m) g rs q = let z : ◌≡◌ {A = ℕ} 0 1 = cc in absurd (omega arith)
