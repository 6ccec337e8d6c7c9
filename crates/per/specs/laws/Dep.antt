-- The laws of one codec and then another, which the first one's value picks. Assumes nothing.
use Rattle.std.specs.Prelude.{ℕ, ◌+◌, ◌≤◌, ◌≡◌, refl, Bool, List, ◌++◌, length, drop}
use Rattle.std.proofs.Common.{sym, ap, subst, ◌∙◌, append_assoc, add_assoc, arith, length-append, drop-drop}
use Rattle.std.proofs.Math.Seq.{drop-append_seam}
use Rattle.per.specs.declared.cursor.Cursor.{Cursor}
use Rattle.per.specs.Codec.{Codec, out, place, Kept, Own}
use Rattle.per.specs.laws.Codec.{first-0, first-1, first-00, unstuck}
use Rattle.per.specs.Shapes.{dep_run, dep_chk, dep_enc, dep_norm, dep_form}

module _ {A B : Type 0} (c : Codec A) (k : A → Codec B) where
  pub dep-stuck : (bs : List Bool) (j : Cursor) → (j.refusal ≡ 0 → ⊥) → dep_run c k bs j ≡ out (c.none, (k c.none).none) j
  dep-stuck bs j h = rw (c.stuck bs j h, (k c.none).stuck bs j h)

  -- where the first is not refused, the bits are its bits and then those of the other
  dep-bits : (p : A × B) → c.chk p.0 ≡ 0 → dep_enc c k p ≡ c.enc p.0 ++ (k (c.norm p.0)).enc p.1
  dep-bits p h = rw h

  pub dep-there : (p : A × B) (bs rest : List Bool) (j : Cursor) → dep_chk c k p ≡ 0 → j.refusal ≡ 0 → drop j.at bs ≡ dep_enc c k p ++ rest
      → dep_run c k bs j ≡ out (dep_norm c k p) (place (j.at + length (dep_enc c k p)))
  dep-there p bs rest j h z e =
      let d : Codec B = k (c.norm p.0) in
      let n : ℕ = length (c.enc p.0) in
      let tail : List Bool = d.enc p.1 ++ rest in
      let h0 : c.chk p.0 ≡ 0 = first-0 (c.chk p.0) (d.chk p.1) h in
      let e0 : drop j.at bs ≡ c.enc p.0 ++ tail =
      e ∙ ap (λ (l : List Bool). l ++ rest) (dep-bits p h0) ∙ append_assoc (c.enc p.0) (d.enc p.1) rest in
      let t0 : c.run bs j ≡ out (c.norm p.0) (place (j.at + n)) = c.there p.0 bs tail j h0 z e0 in
      let e1 : drop (j.at + n) bs ≡ tail =
      sym (drop-drop n j.at bs) ∙ ap (λ (l : List Bool). drop n l) e0 ∙ drop-append_seam (c.enc p.0) tail in
      let t1 : d.run bs (place (j.at + n)) ≡ out (d.norm p.1) (place (j.at + n + length (d.enc p.1))) =
      d.there p.1 bs rest (place (j.at + n)) (first-1 (c.chk p.0) (d.chk p.1) h) refl e1 in
      rw (dep-bits p h0, t0, t1, length-append, add_assoc)

  pub dep-room : (bs : List Bool) (j : Cursor) → (dep_run c k bs j).next.refusal ≡ 0 → j.at ≤ length bs → (dep_run c k bs j).next.at ≤ length bs
  dep-room bs j h l =
      let d : Codec B = k (c.run bs j).value in
      d.room bs (c.run bs j).next h (c.room bs j (unstuck d bs (c.run bs j).next h) l)

  pub dep-kept : (bs : List Bool) (j : Cursor) → (dep_run c k bs j).next.refusal ≡ 0 → dep_form c k bs j ≤ 1
      → Kept (dep_chk c k) (dep_enc c k) (dep_norm c k) j.at (dep_run c k bs j)
  dep-kept bs j h f =
      let a : A = (c.run bs j).value in
      let b : B = ((k a).run bs (c.run bs j).next).value in
      let b0 = c.kept bs j (unstuck (k a) bs (c.run bs j).next h) (omega (arith, f)) in
      let b1 = (k a).kept bs (c.run bs j).next h (omega (arith, f)) in
      record {
        good = rw b0.same (first-00 (c.chk a) ((k a).chk b) b0.good b1.good);
        same = rw (b0.same, b1.same);
        short = rw (dep-bits (a, b) b0.good, b0.same, length-append) (omega (arith, b0.short, b1.short));
      }

  pub dep-back : (bs : List Bool) (j : Cursor) → (dep_run c k bs j).next.refusal ≡ 0 → dep_form c k bs j ≡ 0
      → Own (dep_enc c k) bs j.at (dep_run c k bs j)
  dep-back bs j h f =
      let a : A = (c.run bs j).value in
      let b : B = ((k a).run bs (c.run bs j).next).value in
      let h0 = unstuck (k a) bs (c.run bs j).next h in
      let t0 = c.kept bs j h0 (omega (arith, f)) in
      let b0 = c.back bs j h0 (omega (arith, f)) in
      let b1 = (k a).back bs (c.run bs j).next h (omega (arith, f)) in
      let m : (c.run bs j).next.at ≡ j.at + length (c.enc a) = ap (λ (i : Cursor). i.at) b0.moved in
      let x : drop (j.at + length (c.enc a)) bs ≡ (k a).enc b ++ drop (j.at + length (c.enc a) + length ((k a).enc b)) bs =
      subst (λ (n : ℕ). drop n bs ≡ (k a).enc b ++ drop (n + length ((k a).enc b)) bs) m b1.bits in
      let y : place ((c.run bs j).next.at + length ((k a).enc b)) ≡ place (j.at + length (c.enc a) + length ((k a).enc b)) =
      ap (λ (n : ℕ). place (n + length ((k a).enc b))) m in
      let e : dep_enc c k (a, b) ≡ c.enc a ++ (k a).enc b = dep-bits (a, b) t0.good ∙ ap (λ (v : A). c.enc a ++ (k v).enc b) t0.same in
      record {
        moved = b1.moved ∙ y ∙ rw (e, length-append, add_assoc);
        bits = b0.bits ∙ ap (λ (l : List Bool). c.enc a ++ l) x ∙ rw (e, append_assoc, length-append, add_assoc);
      }
