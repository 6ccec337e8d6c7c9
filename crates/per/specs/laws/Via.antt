-- The laws of the same bits for another type, and of no bits. Assumes nothing.
use Rattle.std.specs.Prelude.{ℕ, ◌+◌, ◌≤◌, ◌≡◌, Bool, List, ◌++◌, length, drop}
use Rattle.std.proofs.Common.{ap, add-zero, arith}
use Rattle.per.specs.declared.cursor.Cursor.{Cursor}
use Rattle.per.specs.Codec.{Codec, out, place, Kept, Own}
use Rattle.per.specs.laws.Codec.{first-0, first-1}
use Rattle.per.specs.Shapes.{via_run, via_chk, via_enc}

module _ {A B : Type 0} (c : Codec A) (to : A → B) (from : B → A) (ok : B → ℕ) where
  pub via-stuck : (bs : List Bool) (j : Cursor) → (j.refusal ≡ 0 → ⊥) → via_run c to from ok bs j ≡ out (to c.none) j
  via-stuck bs j h = rw (c.stuck bs j h)

  pub via-there : (b : B) (bs rest : List Bool) (j : Cursor) → via_chk c to from ok b ≡ 0 → j.refusal ≡ 0
      → drop j.at bs ≡ via_enc c to from ok b ++ rest
      → via_run c to from ok bs j ≡ out (to (c.norm (from b))) (place (j.at + length (via_enc c to from ok b)))
  via-there b bs rest j h z e =
      let h0 : ok b ≡ 0 = first-0 (ok b) (c.chk (from b)) h in
      let e0 : drop j.at bs ≡ c.enc (from b) ++ rest = rw h0 at e in
      rw (h0, c.there (from b) bs rest j (first-1 (ok b) (c.chk (from b)) h) z e0)

module _ {A B : Type 0} (c : Codec A) (to : A → B) (from : B → A) (ok : B → ℕ)
    (left : (a : A) → c.chk a ≡ 0 → c.norm a ≡ a → (ok (to a) ≡ 0) × (from (to a) ≡ a)) where
  pub via-kept : (bs : List Bool) (j : Cursor) → (via_run c to from ok bs j).next.refusal ≡ 0 → c.form bs j ≤ 1
      → Kept (via_chk c to from ok) (via_enc c to from ok) (λ b. to (c.norm (from b))) j.at (via_run c to from ok bs j)
  via-kept bs j h f =
      let t = c.kept bs j h f in
      let l = left (c.run bs j).value t.good t.same in
      record { good = rw (l.0, l.1) t.good; same = rw (l.1, t.same); short = rw (l.0, l.1) t.short }

  pub via-back : (bs : List Bool) (j : Cursor) → (via_run c to from ok bs j).next.refusal ≡ 0 → c.form bs j ≡ 0
      → Own (via_enc c to from ok) bs j.at (via_run c to from ok bs j)
  via-back bs j h f =
      let t = c.kept bs j h (omega (arith, f)) in
      let o = c.back bs j h f in
      let l = left (c.run bs j).value t.good t.same in
      record { moved = rw (l.0, l.1) o.moved; bits = rw (l.0, l.1) o.bits }

pub absent-moved : (j : Cursor) → j.refusal ≡ 0 → j ≡ place (j.at + 0)
absent-moved j h = rw (h, add-zero)

pub absent-there : {A : Type 0} (z : A) (j : Cursor) → j.refusal ≡ 0 → out z j ≡ out z (place (j.at + 0))
absent-there z j h = ap (λ (i : Cursor). out z i) (absent-moved j h)
