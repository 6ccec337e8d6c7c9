-- The laws of a further judgement. Assumes nothing.
use Rattle.std.specs.Prelude.{ℕ, zero, suc, ◌+◌, ◌≤◌, ◌≡◌, refl, Bool, true, false, cond, List, ◌++◌, length, drop, eqb}
use Rattle.std.proofs.Common.{sym, ap, subst, arith, eq-eqb, ne_eqb, eqb-true}
use Rattle.std.proofs.lemmas.Bool.{false≢true}
use Rattle.per.specs.declared.cursor.Cursor.{Cursor}
use Rattle.per.specs.Codec.{Codec, Out, out, place, Kept, Own}
use Rattle.per.specs.laws.Codec.{first-0, first-1, first-00}
use Rattle.per.specs.Field.{settle}
use Rattle.per.specs.Shapes.{only_run, only_chk, only_enc}

only-invert : {A : Type 0} (b : Bool) (n : ℕ) (z : A) (at : ℕ) (r : Out A) → (b ≡ true → r.next.refusal ≡ 0) → (r.next.refusal ≡ 0 → b ≡ true)
    → (cond b (settle n r.value z at r.next.at) r).next.refusal ≡ 0 → (r.next.refusal ≡ 0) × (n ≡ 0)
only-invert true zero z at r p q h = (p refl, refl)
only-invert true (suc n) z at r p q h = absurd (omega arith)
only-invert false n z at r p q h = absurd (false≢true (q h))

module _ {A : Type 0} (c : Codec A) (bad : A → ℕ) where
  pub only-stuck : (bs : List Bool) (j : Cursor) → (j.refusal ≡ 0 → ⊥) → only_run c bad bs j ≡ out c.none j
  only-stuck bs j h = rw (c.stuck bs j h, ne_eqb j.refusal 0 h)

  pub only-there : (a : A) (bs rest : List Bool) (j : Cursor) → only_chk c bad a ≡ 0 → j.refusal ≡ 0 → drop j.at bs ≡ only_enc c bad a ++ rest
      → only_run c bad bs j ≡ out (c.norm a) (place (j.at + length (only_enc c bad a)))
  only-there a bs rest j h z e =
      let b : bad (c.norm a) ≡ 0 = first-1 (c.chk a) (bad (c.norm a)) h in
      let e0 : drop j.at bs ≡ c.enc a ++ rest = rw b at e in
      rw (b, c.there a bs rest j (first-0 (c.chk a) (bad (c.norm a)) h) z e0, b)

  only-is : (bs : List Bool) (j : Cursor) → (only_run c bad bs j).next.refusal ≡ 0
      → (only_run c bad bs j ≡ c.run bs j) × ((c.run bs j).next.refusal ≡ 0) × (bad (c.run bs j).value ≡ 0)
  only-is bs j h =
      let r : Out A = c.run bs j in
      let i = only-invert (eqb r.next.refusal 0) (bad r.value) c.none j.at r (eqb-true r.next.refusal 0) (eq-eqb r.next.refusal 0) h in
      let e : place r.next.at ≡ r.next = λ k. record { at = r.next.at; refusal = sym i.0 k } in
      (rw (eq-eqb r.next.refusal 0 i.0, i.1) (ap (λ (k : Cursor). out r.value k) e), i.0, i.1)

  pub only-room : (bs : List Bool) (j : Cursor) → (only_run c bad bs j).next.refusal ≡ 0 → j.at ≤ length bs → (only_run c bad bs j).next.at ≤ length bs
  only-room bs j h l = let i = only-is bs j h in subst (λ (r : Out A). r.next.at ≤ length bs) (sym i.0) (c.room bs j i.1 l)

  pub only_kept : (bs : List Bool) (j : Cursor) → (only_run c bad bs j).next.refusal ≡ 0 → c.form bs j ≤ 1
      → Kept (only_chk c bad) (only_enc c bad) c.norm j.at (only_run c bad bs j)
  only_kept bs j h f =
      let a : A = (c.run bs j).value in
      let i = only-is bs j h in
      let t = c.kept bs j i.1 f in
      subst (λ (r : Out A). Kept (only_chk c bad) (only_enc c bad) c.norm j.at r) (sym i.0) (record {
        good = rw t.same (first-00 (c.chk a) (bad a) t.good i.2);
        same = t.same;
        short = rw (t.same, i.2) t.short;
      })

  pub only-back : (bs : List Bool) (j : Cursor) → (only_run c bad bs j).next.refusal ≡ 0 → c.form bs j ≡ 0
      → Own (only_enc c bad) bs j.at (only_run c bad bs j)
  only-back bs j h f =
      let i = only-is bs j h in
      let s : c.norm (c.run bs j).value ≡ (c.run bs j).value = (c.kept bs j i.1 (omega (arith, f))).same in
      let o = c.back bs j i.1 f in
      subst (λ (r : Out A). Own (only_enc c bad) bs j.at r) (sym i.0) (record { moved = rw (s, i.2) o.moved; bits = rw (s, i.2) o.bits })
