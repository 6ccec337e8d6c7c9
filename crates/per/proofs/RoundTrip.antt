-- The two round trips, for every codec. Assumes nothing.
use Prim.Native.Nat.{ℕ, zero, suc, ◌+◌, ◌*◌, ◌/◌, ◌≤◌, ◌<◌}
use mathlib.Core.Path.{◌≡◌, refl, sym, ap, subst, ◌∙◌}
use mathlib.Core.Bool.{Bool, false}
use mathlib.Core.List.{List, [], ◌∷◌, ◌++◌, append-nil}
use native.Mathlib.Nat.{zero-add}
use native.Mathlib.Omega.{arith}
use lib.Pow.{pow_pos}
use lib.ListN.{length, get_or, drop, replicate, length-append, length-drop, length-replicate, replicate-append-replicate, drop_of_length-le}
use lib.Seq.{drop_at, drop-append_seam}
use lib.Dec.{eqb, leb}
use borrow.Author.Tests.{eq-eqb, eqb-true, le-leb, leb-true}
use Rattle.per.specs.declared.cursor.Cursor.{Cursor}
use Rattle.per.specs.Bits.{to_bit, to_bits, num_at, bits_of}
use Rattle.per.specs.laws.Bits.{length-to_bits, num-there, num-back}
use Rattle.per.specs.Codec.{Codec, Out, out, place, Within, first, unless}
use Rattle.per.specs.laws.Codec.{first-0, first-1, unless-true, unstuck}
use Rattle.per.specs.Pdu.{fill, filled, pack, encode, window, start, ending, finish, got, answer, read_pdu, form_pdu}
use Rattle.per.proofs.Octets.{length-bits_of, window-all}

to_bits-zero : (w : ℕ) → to_bits w 0 ≡ replicate w false
unfolding to_bits to_bit
to_bits-zero zero = refl
to_bits-zero (suc w) = ap (λ (l : List Bool). l ++ (false ∷ [])) (to_bits-zero w) ∙ replicate-append-replicate w 1 false ∙ ap (λ (n : ℕ). replicate n false) (let q : w + 1 ≡ suc w = omega arith in q)

nil : (bs : List Bool) → length bs ≡ 0 → bs ≡ []
nil [] h = refl
nil (b ∷ bs) h = absurd (omega arith)

bits-pack : (n : ℕ) (bs : List Bool) → length bs ≡ n * 8 → bits_of (pack n bs) ≡ bs
unfolding bits_of pack
bits-pack zero bs h = sym (nil bs (omega arith))
bits-pack (suc n) bs h =
    ap (λ (l : List Bool). to_bits 8 (num_at bs 0 8) ++ l) (bits-pack n (drop 8 bs) (omega (arith, length-drop 8 bs)))
    ∙ sym (num-back 8 bs 0 (omega arith))

pub pack-bits : (s : List ℕ) (n : ℕ) → length s ≡ n → ((i : ℕ) → get_or s i 0 < 256) → pack n (bits_of s) ≡ s
unfolding bits_of pack
pack-bits [] zero h b = refl
pack-bits [] (suc n) h b = absurd (omega arith)
pack-bits (o ∷ s) zero h b = absurd (omega arith)
pack-bits (o ∷ s) (suc n) h b =
    let e : num_at (to_bits 8 o ++ bits_of s) 0 8 ≡ o = num-there 8 o (to_bits 8 o ++ bits_of s) (bits_of s) 0 (b 0) refl in
    let d : drop 8 (to_bits 8 o ++ bits_of s) ≡ bits_of s = drop_at (to_bits 8 o) (bits_of s) 8 (length-to_bits 8 o) in
    rw (e, d, pack-bits s n (omega arith) (λ i. b (suc i)))

pub length-filled : (bs : List Bool) → length (filled bs) ≡ length bs + fill (length bs)
length-filled bs = length-append bs (replicate (fill (length bs)) false) ∙ ap (λ (n : ℕ). length bs + n) (length-replicate (fill (length bs)) false)

answer-got : {A : Type 0} (n : ℕ) (v a : A) → answer n v ≡ got a → (n ≡ 0) × (v ≡ a)
answer-got zero v a e = (refl, cc)
answer-got (suc n) v a e = let z : ◌≡◌ {A = ℕ} 0 1 = cc in absurd (omega arith)

-- with the ending in order, what is left are the zeros
pub tail-zeros : (bs : List Bool) (n : ℕ) → ending bs n ≡ 0 → drop n bs ≡ replicate (fill n) false
tail-zeros bs n g =
    let f : ℕ = unless (eqb (num_at bs n (fill n)) 0) 13 in
    let o : ℕ = unless (eqb (n + fill n) (length bs)) 14 in
    let z : num_at bs n (fill n) ≡ 0 = eqb-true (num_at bs n (fill n)) 0 (unless-true (eqb (num_at bs n (fill n)) 0) 12 (first-0 f o g)) in
    let q : n + fill n ≡ length bs = eqb-true (n + fill n) (length bs) (unless-true (eqb (n + fill n) (length bs)) 13 (first-1 f o g)) in
    num-back (fill n) bs n (omega arith) ∙ rw (z, drop_of_length-le bs {i = n + fill n} (omega arith), append-nil, to_bits-zero)

pub length-pack : (n : ℕ) (bs : List Bool) → length (pack n bs) ≡ n
unfolding pack
length-pack zero bs = refl
length-pack (suc n) bs = ap suc (length-pack n (drop 8 bs))

pub length-encode : {A : Type 0} (c : Codec A) (a : A) → length (encode c a) ≡ (length (c.enc a) + fill (length (c.enc a))) / 8
unfolding encode
length-encode c a = length-pack (length (filled (c.enc a)) / 8) (filled (c.enc a)) ∙ ap (λ (n : ℕ). n / 8) (length-filled (c.enc a))

-- an input within 128 octets starts with no refusal, and every other one with 16
start-good : (s : List ℕ) → length s ≤ 128 → start s ≡ place 0
unfolding start
start-good s h = rw (le-leb (length s) 128 h)

start-short : (s : List ℕ) → (start s).refusal ≡ 0 → length s ≤ 128
unfolding start
start-short s h = leb-true (length s) 128 (unless-true (leb (length s) 128) 15 h)

module _ {A : Type 0} (c : Codec A) where
  bits-encode : (a : A) → bits_of (encode c a) ≡ filled (c.enc a)
  unfolding encode
  bits-encode a =
      let f : List Bool = filled (c.enc a) in
      bits-pack (length f / 8) f (omega (arith, length-filled (c.enc a)))

  -- what was written is read again
  pub written : (a : A) → c.chk a ≡ 0 → length (encode c a) ≤ 128 → read_pdu c (encode c a) ≡ got (c.norm a)
  unfolding read_pdu finish
  written a h l =
      let e : List Bool = c.enc a in
      let n : ℕ = length e in
      let t : c.run (filled e) (place 0) ≡ out (c.norm a) (place (0 + n)) = c.there a (filled e) (replicate (fill n) false) (place 0) h refl refl in
      let z : num_at (filled e) n (fill n) ≡ 0 =
      num-there (fill n) 0 (filled e) [] n (pow_pos (fill n))
      (drop-append_seam e (replicate (fill n) false) ∙ sym (to_bits-zero (fill n)) ∙ sym (append-nil (to_bits (fill n) 0))) in
      let q : n + fill n ≡ length (filled e) = sym (length-filled e) in
      rw (start-good (encode c a) l, window-all (encode c a) l, bits-encode a, t, zero-add n, eq-eqb (num_at (filled e) n (fill n)) 0 z, eq-eqb (n + fill n) (length (filled e)) q)

  -- what stands behind a good reading
  pub got-run : (s : List ℕ) (a : A) → read_pdu c s ≡ got a
      → (length s ≤ 128) × ((c.run (bits_of s) (place 0)).next.refusal ≡ 0) × (ending (bits_of s) (c.run (bits_of s) (place 0)).next.at ≡ 0) × ((c.run (bits_of s) (place 0)).value ≡ a)
  unfolding read_pdu finish
  got-run s a h =
      let r : Out A = c.run (window s) (start s) in
      let i = answer-got (first r.next.refusal (ending (window s) r.next.at)) r.value a h in
      let g : r.next.refusal ≡ 0 = first-0 r.next.refusal (ending (window s) r.next.at) i.0 in
      let l : length s ≤ 128 = start-short s (unstuck c (window s) (start s) g) in
      let k = subst (λ (b : List Bool). ((c.run b (place 0)).next.refusal ≡ 0) × (ending b (c.run b (place 0)).next.at ≡ 0) × ((c.run b (place 0)).value ≡ a)) (window-all s l)
      (subst (λ (j : Cursor). ((c.run (window s) j).next.refusal ≡ 0) × (ending (window s) (c.run (window s) j).next.at ≡ 0) × ((c.run (window s) j).value ≡ a)) (start-good s l)
      (g, first-1 r.next.refusal (ending (window s) r.next.at) i.0, i.1)) in
      (l, k.0, k.1, k.2)

  pub form-is : (s : List ℕ) → length s ≤ 128 → form_pdu c s ≡ c.form (bits_of s) (place 0)
  unfolding form_pdu
  form-is s l = ap (λ (j : Cursor). c.form (window s) j) (start-good s l) ∙ ap (λ (b : List Bool). c.form b (place 0)) (window-all s l)

  -- what was read in any form of a value that may be written is written in the writer's own form, and that reads as the same value
  pub read_kept : (s : List ℕ) (a : A) → read_pdu c s ≡ got a → form_pdu c s ≤ 1 → (c.chk a ≡ 0) × (c.norm a ≡ a) × (read_pdu c (encode c a) ≡ got a)
  read_kept s a h f =
      let g = got-run s a h in
      let r : Out A = c.run (bits_of s) (place 0) in
      let t = c.kept (bits_of s) (place 0) g.1 (rw (form-is s g.0) at f) in
      let m : r.next.at ≤ length (bits_of s) = c.room (bits_of s) (place 0) g.1 (omega arith) in
      let q : (c.chk a ≡ 0) × (c.norm a ≡ a) × (length (c.enc a) ≤ length (bits_of s)) =
      subst (λ (v : A). (c.chk v ≡ 0) × (c.norm v ≡ v) × (length (c.enc v) ≤ length (bits_of s))) g.3 (t.good, t.same, omega (arith, t.short, m)) in
      let l : length (encode c a) ≤ 128 = omega (arith, length-encode c a, q.2, length-bits_of s, g.0) in
      (q.0, q.1, written a q.0 l ∙ ap got q.1)

  -- what was read in the writer's own form is written again, octet for octet
  pub read-own : (s : List ℕ) (a : A) → ((i : ℕ) → get_or s i 0 < 256) → read_pdu c s ≡ got a → form_pdu c s ≡ 0 → encode c a ≡ s
  unfolding encode
  read-own s a b h f =
      let bs : List Bool = bits_of s in
      let r : Out A = c.run bs (place 0) in
      let i = got-run s a h in
      let t = c.back bs (place 0) i.1 (rw (form-is s i.0) at f) in
      let e : List Bool = c.enc r.value in
      let n : ℕ = length e in
      let m : r.next.at ≡ n = ap (λ (k : Cursor). k.at) t.moved ∙ zero-add n in
      let g : ending bs n ≡ 0 = subst (λ (k : ℕ). ending bs k ≡ 0) m i.2 in
      let w : bs ≡ filled e = subst (λ (k : ℕ). bs ≡ e ++ drop k bs) (zero-add n) t.bits ∙ ap (λ (l : List Bool). e ++ l) (tail-zeros bs n g) in
      let x : pack (length (filled e) / 8) (filled e) ≡ s =
      subst (λ (l : List Bool). pack (length l / 8) l ≡ s) w (pack-bits s (length bs / 8) (omega (arith, length-bits_of s)) b) in
      subst (λ (v : A). pack (length (filled (c.enc v)) / 8) (filled (c.enc v)) ≡ s) i.3 x

  -- and where there is no other form, so is everything that was read
  pub read : Within 0 c → (s : List ℕ) (a : A) → ((i : ℕ) → get_or s i 0 < 256) → read_pdu c s ≡ got a → (c.chk a ≡ 0) × (c.norm a ≡ a) × (encode c a ≡ s)
  read z s a b h =
      let f : c.form (bits_of s) (place 0) ≡ 0 = omega (arith, z.most (bits_of s) (place 0)) in
      let g : form_pdu c s ≡ 0 = form-is s (got-run s a h).0 ∙ f in
      let k = read_kept s a h (omega (arith, g)) in
      (k.0, k.1, read-own s a b h g)
