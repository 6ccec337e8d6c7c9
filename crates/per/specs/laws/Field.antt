-- The laws of one field, from the bit fact. Assumes nothing.
use Rattle.std.specs.Prelude.{ℕ, zero, suc, ◌+◌, ◌-◌, ◌≤◌, ◌≡◌, refl, Bool, true, false, cond, List, ◌++◌, length, drop, eqb, leb}
use Rattle.std.proofs.Common.{◌∙◌, arith, length-append, length-drop, eq-eqb, ne_eqb, eqb-true, leb-true, le-leb}
use Rattle.std.proofs.lemmas.Bool.{false≢true}
use Rattle.per.specs.declared.cursor.Cursor.{Cursor}
use Rattle.per.specs.Bits.{to_bits, num_at}
use Rattle.per.specs.laws.Bits.{length-to_bits, num_at-lt, num-there, num-back}
use Rattle.per.specs.Codec.{out, place, refuse, Kept, Own}
use Rattle.per.specs.Field.{Field, settle, read_field, field_bits}

read_invert : {A : Type 0} (b d : Bool) (n : ℕ) (a z : A) (at to : ℕ) (j : Cursor) → (b ≡ true → j.refusal ≡ 0) → (j.refusal ≡ 0 → b ≡ true)
    → (cond b (cond d (settle n a z at to) (out z (refuse at 7))) (out z j)).next.refusal ≡ 0 → (j.refusal ≡ 0) × (d ≡ true) × (n ≡ 0)
read_invert true true zero a z at to j p q h = (p refl, refl, refl)
read_invert true true (suc n) a z at to j p q h = absurd (omega arith)
read_invert true false n a z at to j p q h = absurd (omega arith)
read_invert false d n a z at to j p q h = absurd (false≢true (q h))

module _ {A : Type 0} (f : Field A) where
  pub read_good : (bs : List Bool) (j : Cursor) → j.refusal ≡ 0 → f.width ≤ length bs - j.at → f.judge (num_at bs j.at f.width) ≡ 0
      → read_field f bs j ≡ out (f.to (num_at bs j.at f.width)) (place (j.at + f.width))
  read_good bs j z l g = rw (eq-eqb j.refusal 0 z, le-leb f.width (length bs - j.at) l, g)

  pub field-stuck : (bs : List Bool) (j : Cursor) → (j.refusal ≡ 0 → ⊥) → read_field f bs j ≡ out f.none j
  field-stuck bs j h = rw (ne_eqb j.refusal 0 h)

  pub field-there : (a : A) (bs rest : List Bool) (j : Cursor) → f.chk a ≡ 0 → j.refusal ≡ 0 → drop j.at bs ≡ field_bits f a ++ rest
      → read_field f bs j ≡ out a (place (j.at + length (field_bits f a)))
  field-there a bs rest j h z e =
      let w = f.write a h in
      let b : List Bool = to_bits f.width (f.from a) in
      let e' : drop j.at bs ≡ b ++ rest = rw h at e in
      let n : num_at bs j.at f.width ≡ f.from a = num-there f.width (f.from a) bs rest j.at w.0 e' in
      let g : f.judge (num_at bs j.at f.width) ≡ 0 = rw n w.1 in
      let l : f.width ≤ length bs - j.at =
      omega (arith, rw (e', length-append) at (length-drop j.at bs), length-to_bits f.width (f.from a)) in
      rw h (read_good bs j z l g ∙ rw (n, w.2, length-to_bits))

  field-ok : (bs : List Bool) (j : Cursor) → (read_field f bs j).next.refusal ≡ 0
      → (j.refusal ≡ 0) × (f.width ≤ length bs - j.at) × (f.judge (num_at bs j.at f.width) ≡ 0)
  field-ok bs j h =
      let v : ℕ = num_at bs j.at f.width in
      let i = read_invert (eqb j.refusal 0) (leb f.width (length bs - j.at)) (f.judge v) (f.to v) f.none j.at (j.at + f.width) j
      (eqb-true j.refusal 0) (eq-eqb j.refusal 0) h in
      (i.0, leb-true _ _ i.1, i.2)

  pub field_room : (bs : List Bool) (j : Cursor) → (read_field f bs j).next.refusal ≡ 0 → j.at ≤ length bs → (read_field f bs j).next.at ≤ length bs
  field_room bs j h l = let i = field-ok bs j h in rw (read_good bs j i.0 i.1 i.2) (omega (arith, i.1))

  pub field-kept : (bs : List Bool) (j : Cursor) → (read_field f bs j).next.refusal ≡ 0
      → Kept f.chk (field_bits f) (λ a. a) j.at (read_field f bs j)
  field-kept bs j h =
      let i = field-ok bs j h in
      let r = f.read (num_at bs j.at f.width) (num_at-lt bs j.at f.width) i.2 in
      rw (read_good bs j i.0 i.1 i.2) (record { good = r.0; same = refl; short = rw (r.0, length-to_bits) (omega arith) })

  pub field_back : (bs : List Bool) (j : Cursor) → (read_field f bs j).next.refusal ≡ 0 → Own (field_bits f) bs j.at (read_field f bs j)
  field_back bs j h =
      let i = field-ok bs j h in
      let r = f.read (num_at bs j.at f.width) (num_at-lt bs j.at f.width) i.2 in
      rw (read_good bs j i.0 i.1 i.2) (record {
        moved = rw (r.0, length-to_bits);
        bits = rw (r.0, r.1, length-to_bits) (num-back f.width bs j.at i.1);
      })

  -- the bits that a reading passed
  pub field-passed : (bs : List Bool) (j : Cursor) → (read_field f bs j).next.refusal ≡ 0
      → ((read_field f bs j).next.at ≡ j.at + f.width) × (drop j.at bs ≡ to_bits f.width (f.from (read_field f bs j).value) ++ drop (j.at + f.width) bs)
  field-passed bs j h =
      let i = field-ok bs j h in
      let r = f.read (num_at bs j.at f.width) (num_at-lt bs j.at f.width) i.2 in
      rw (read_good bs j i.0 i.1 i.2) (refl, rw r.1 (num-back f.width bs j.at i.1))
