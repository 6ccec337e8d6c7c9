-- The laws of a value with more forms than one. Assumes nothing.
use Rattle.std.specs.Prelude.{ℕ, zero, suc, ◌≤◌, ◌≡◌, refl, Bool, List}
use Rattle.std.proofs.Common.{arith}
use Rattle.per.specs.declared.cursor.Cursor.{Cursor}
use Rattle.per.specs.Codec.{Codec, Kept, Own}
use Rattle.per.specs.laws.Codec.{first-0}
use Rattle.per.specs.Shapes.{via_run, via_chk, via_enc, Other, recast_form}

module _ {A B : Type 0} (c : Codec A) (to : A → B) (from : B → A) (ok : B → ℕ) (grade : A → ℕ)
    (left : (a : A) → c.chk a ≡ 0 → c.norm a ≡ a → grade a ≡ 0 → (ok (to a) ≡ 0) × (from (to a) ≡ a))
    (other : (a : A) → c.chk a ≡ 0 → c.norm a ≡ a → grade a ≡ 1 → Other c to from ok a) where
  pub recast-kept : (bs : List Bool) (j : Cursor) → (via_run c to from ok bs j).next.refusal ≡ 0 → recast_form c grade bs j ≤ 1
      → Kept (via_chk c to from ok) (via_enc c to from ok) (λ b. to (c.norm (from b))) j.at (via_run c to from ok bs j)
  recast-kept bs j h f = go (grade a) refl (omega (arith, f))
    where
      a : A
      a = (c.run bs j).value

      t : Kept c.chk c.enc c.norm j.at (c.run bs j)
      t = c.kept bs j h (omega (arith, f))

      go : (n : ℕ) → grade a ≡ n → n ≤ 1
          → Kept (via_chk c to from ok) (via_enc c to from ok) (λ b. to (c.norm (from b))) j.at (via_run c to from ok bs j)
      go zero e l =
          let q = left a t.good t.same e in
          record { good = rw (q.0, q.1) t.good; same = rw (q.1, t.same); short = rw (q.0, q.1) t.short }
      go (suc zero) e l =
          let q = other a t.good t.same e in
          record { good = q.good; same = q.same; short = rw (first-0 (ok (to a)) (c.chk (from (to a))) q.good) (omega (arith, q.short, t.short)) }
      go (suc (suc n)) e l = absurd (omega arith)

  pub recast-back : (bs : List Bool) (j : Cursor) → (via_run c to from ok bs j).next.refusal ≡ 0 → recast_form c grade bs j ≡ 0
      → Own (via_enc c to from ok) bs j.at (via_run c to from ok bs j)
  recast-back bs j h f =
      let t = c.kept bs j h (omega (arith, f)) in
      let o = c.back bs j h (omega (arith, f)) in
      let l = left (c.run bs j).value t.good t.same (omega (arith, f)) in
      record { moved = rw (l.0, l.1) o.moved; bits = rw (l.0, l.1) o.bits }
