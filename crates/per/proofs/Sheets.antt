-- What stands on a sheet: blank octets with bits written hold those bits and then zeros; so the octets put out are the value's PDU. Assumes nothing.
use Prim.Native.Nat.{ℕ, zero, suc, ◌+◌, ◌-◌, ◌*◌, ◌/◌, ◌%◌, min, ◌≤◌, ◌<◌}
use mathlib.Core.Path.{◌≡◌, refl, sym, ap, ◌∙◌}
use mathlib.Core.Bool.{Bool, true, false, cond, ◌&&◌}
use mathlib.Core.List.{List, [], ◌∷◌, ◌++◌, append_assoc}
use native.Mathlib.Nat.{suc-add}
use native.Mathlib.Omega.{arith}
use lib.ListN.{length, get_or, set, take, drop, replicate, length-append, length-drop, length-set, length-replicate, replicate-append-replicate}
use lib.Seq.{set-append_left, set-append_seam, drop-append-le, length-take-le}
use lib.Dec.{eqb, leb, ltb}
use borrow.Author.Tests.{ltb-true, ltb-false, lt-ltb, le-leb, lt-leb}
use Rattle.std.specs.Prelude.{Result}
use Rattle.per.specs.declared.pen.Pen.{Pen}
use Rattle.per.specs.Written.{Octets, Refused}
use Rattle.per.proofs.Told.{handed-alone}
use Rattle.per.specs.Bits.{of_bit, to_bit, to_bits, bits_of, num_at}
use Rattle.per.specs.laws.Bits.{num_at-lt, num-there, num-back, of_bit-lt, to-of, length-to_bits}
use Rattle.per.specs.Codec.{Codec, first, unless}
use Rattle.per.specs.laws.Codec.{first-not}
use Rattle.per.specs.Pdu.{fill, pack, filled, encode}
use Rattle.per.specs.Writing.{octet_with, set_bit, put_bits, onward, delivered, unsent, write_pdu, octets_for, deliver, Ink, ink, Writes, Hands, Delivers}
use Rattle.per.proofs.Octets.{length-bits_of}
use Rattle.per.proofs.Puts.{octet-with-is, octet-with-lt}
use Rattle.per.proofs.RoundTrip.{pack-bits, length-filled, length-pack, length-encode}

set-append-add : {A : Type 0} (xs ys : List A) (n : ℕ) (a : A) → set (xs ++ ys) (length xs + n) a ≡ xs ++ set ys n a
set-append-add [] ys n a = let z : 0 + n ≡ n = omega arith in rw z
set-append-add (x ∷ xs) ys n a = rw (suc-add (length xs) n) (ap (λ l. x ∷ l) (set-append-add xs ys n a))

-- the bit of weight 2 ^ k of w bits
bits-octet : (w v k : ℕ) (b : Bool) → k < w → to_bits w (octet_with v k (of_bit b)) ≡ set (to_bits w v) (w - suc k) b
unfolding to_bits octet_with
bits-octet zero v k b h = absurd (omega arith)
bits-octet (suc w) v zero b h =
    let hi : (v / 2 * 2 + of_bit b) / 2 ≡ v / 2 = omega (arith, of_bit-lt b) in
    let lo : (v / 2 * 2 + of_bit b) % 2 ≡ of_bit b = omega (arith, of_bit-lt b) in
    let i : suc w - 1 ≡ length (to_bits w (v / 2)) = omega (arith, length-to_bits w (v / 2)) in
    rw (hi, lo, to-of, i) (sym (set-append_seam (to_bits w (v / 2)) (to_bit (v % 2)) [] b))
bits-octet (suc w) v (suc k) b h =
    let x : ℕ = octet_with (v / 2) k (of_bit b) in
    let hi : (x * 2 + v % 2) / 2 ≡ x = omega arith in
    let lo : (x * 2 + v % 2) % 2 ≡ v % 2 = omega arith in
    let i : suc w - suc (suc k) ≡ w - suc k = omega arith in
    rw (hi, lo, i, bits-octet w (v / 2) k b (omega arith))
    (sym (set-append_left (to_bits w (v / 2)) (to_bit (v % 2) ∷ []) (w - suc k) b (omega (arith, length-to_bits w (v / 2)))))

-- the octets with one bit made b have the bits with that one made b
set-octet : (s : List ℕ) (i : ℕ) (b : Bool) → i < length s * 8
    → bits_of (set s (i / 8) (octet_with (get_or s (i / 8) 0) (7 - i % 8) (of_bit b))) ≡ set (bits_of s) i b
unfolding bits_of
set-octet [] i b h = absurd (omega arith)
set-octet (o ∷ s) i b h = go (λ l. set-octet s (i - 8) b l) (ltb i 8) refl
  where
    go : (i - 8 < length s * 8 → bits_of (set s ((i - 8) / 8) (octet_with (get_or s ((i - 8) / 8) 0) (7 - (i - 8) % 8) (of_bit b))) ≡ set (bits_of s) (i - 8) b) → (t : Bool) → ltb i 8 ≡ t
        → bits_of (set (o ∷ s) (i / 8) (octet_with (get_or (o ∷ s) (i / 8) 0) (7 - i % 8) (of_bit b))) ≡ set (to_bits 8 o ++ bits_of s) i b
    go ih true e =
        let l : i < 8 = ltb-true i 8 e in
        let q : i / 8 ≡ 0 = omega arith in
        let r : 8 - suc (7 - i % 8) ≡ i = omega arith in
        rw q (ap (λ (l : List Bool). l ++ bits_of s) (bits-octet 8 o (7 - i % 8) b (omega arith)) ∙ rw r (sym (set-append_left (to_bits 8 o) (bits_of s) i b (omega (arith, length-to_bits 8 o)))))
    go ih false e =
        let l : 8 ≤ i = ltb-false i 8 e in
        let q : i / 8 ≡ suc ((i - 8) / 8) = omega arith in
        let r : i % 8 ≡ (i - 8) % 8 = omega arith in
        let n : i ≡ length (to_bits 8 o) + (i - 8) = omega (arith, length-to_bits 8 o) in
        rw (q, r) (ap (λ (l : List Bool). to_bits 8 o ++ l) (ih (omega arith)) ∙ sym (set-append-add (to_bits 8 o) (bits_of s) (i - 8) b))
        ∙ ap (λ (m : ℕ). set (to_bits 8 o ++ bits_of s) m b) (sym n)

set-bit : (s : List ℕ) (i : ℕ) (b : Bool) → i < length s * 8 → i < 1024 → bits_of (set_bit s i b) ≡ set (bits_of s) i b
unfolding set_bit
set-bit s i b h l = rw (lt-ltb i 1024 l) (set-octet s i b h)

length-set_bit : (s : List ℕ) (i : ℕ) (b : Bool) → length (set_bit s i b) ≡ length s
unfolding set_bit
length-set_bit s i b = go (ltb i 1024)
  where
    go : (t : Bool) → length (cond t (set s (i / 8) (octet_with (get_or s (i / 8) 0) (7 - i % 8) (of_bit b))) s) ≡ length s
    go true = simp length-set
    go false = refl

-- bits written at place at, after the first `at` bits: what stood before and what stands after is kept
pub put-bits : (bs x y z : List Bool) (s : List ℕ) → length s ≡ 128 → length y ≡ length bs → bits_of s ≡ x ++ (y ++ z) → bits_of (put_bits s (length x) bs) ≡ x ++ (bs ++ z)
unfolding put_bits
put-bits [] x [] z s l e q = q
put-bits [] x (c ∷ y) z s l e q = absurd (omega arith)
put-bits (b ∷ bs) x [] z s l e q = absurd (omega arith)
put-bits (b ∷ bs) x (c ∷ y) z s l e q =
    let m : length x + suc (length y + length z) ≡ 1024 =
    omega (arith, ap length q, length-append x (c ∷ (y ++ z)), length-append y z, length-bits_of s) in
    let k : length x < 1024 = omega arith in
    let w : List Bool = x ++ (b ∷ []) in
    let lw : length w ≡ suc (length x) = length-append x (b ∷ []) ∙ omega arith in
    let t : bits_of (set_bit s (length x) b) ≡ w ++ (y ++ z) =
    set-bit s (length x) b (omega arith) k ∙ ap (λ (i : List Bool). set i (length x) b) q ∙ set-append_seam x c (y ++ z) b ∙ sym (append_assoc x (b ∷ []) (y ++ z)) in
    let r = put-bits bs w y z (set_bit s (length x) b) (length-set_bit s (length x) b ∙ l) (omega arith) t in
    ap (λ (n : ℕ). bits_of (put_bits (set_bit s (length x) b) n bs)) (sym lw) ∙ r ∙ append_assoc x (b ∷ []) (bs ++ z)

-- ---- the octets of a blank sheet on which a value was written are the value's PDU
blank-bits : (n : ℕ) → bits_of (replicate n 0) ≡ replicate (n * 8) false
unfolding bits_of to_bits to_bit
blank-bits zero = refl
blank-bits (suc n) =
    let e : suc n * 8 ≡ 8 + n * 8 = omega arith in
    ap (λ (l : List Bool). replicate 8 false ++ l) (blank-bits n) ∙ replicate-append-replicate 8 (n * 8) false ∙ ap (λ (k : ℕ). replicate k false) (sym e)

abbrev Small : List ℕ → Type 0
Small s = (i : ℕ) → get_or s i 0 < 256

blank-small : (n : ℕ) → Small (replicate n 0)
blank-small zero i = omega arith
blank-small (suc n) zero = omega arith
blank-small (suc n) (suc i) = blank-small n i

set-small : (s : List ℕ) (j x : ℕ) → Small s → x < 256 → Small (set s j x)
set-small [] j x h l i = omega arith
set-small (o ∷ s) zero x h l zero = l
set-small (o ∷ s) zero x h l (suc i) = h (suc i)
set-small (o ∷ s) (suc j) x h l zero = h 0
set-small (o ∷ s) (suc j) x h l (suc i) = set-small s j x (λ k. h (suc k)) l i

bit-small : (s : List ℕ) (i : ℕ) (b : Bool) → Small s → Small (set_bit s i b)
unfolding set_bit
bit-small s i b h = go (ltb i 1024)
  where
    o : ℕ
    o = get_or s (i / 8) 0

    go : (t : Bool) → Small (cond t (set s (i / 8) (octet_with o (7 - i % 8) (of_bit b))) s)
    go true = set-small s (i / 8) (octet_with o (7 - i % 8) (of_bit b)) h (rw (octet-with-is) (octet-with-lt o (7 - i % 8) (of_bit b) (h (i / 8)) (omega arith) (of_bit-lt b)))
    go false = h

put_small : (bs : List Bool) (at : ℕ) (s : List ℕ) → Small s → Small (put_bits s at bs)
unfolding put_bits
put_small [] at s h = h
put_small (b ∷ bs) at s h = put_small bs (suc at) (set_bit s at b) (bit-small s at b h)

length-put : (bs : List Bool) (at : ℕ) (s : List ℕ) → length (put_bits s at bs) ≡ length s
unfolding put_bits
length-put [] at s = refl
length-put (b ∷ bs) at s = length-put bs (suc at) (set_bit s at b) ∙ length-set_bit s at b

take-pack : (n m : ℕ) (x y : List Bool) → length x ≡ n * 8 → n ≤ m → take n (pack m (x ++ y)) ≡ pack n x
unfolding pack
take-pack zero m x y l h = refl
take-pack (suc n) zero x y l h = absurd (omega arith)
take-pack (suc n) (suc m) x y l h =
    let d : drop 8 (x ++ y) ≡ drop 8 x ++ y = drop-append-le 8 x y (omega arith) in
    let v : num_at (x ++ y) 0 8 ≡ num_at x 0 8 =
    num-there 8 (num_at x 0 8) (x ++ y) (drop 8 x ++ y) 0 (num_at-lt x 0 8)
    (ap (λ (k : List Bool). k ++ y) (num-back 8 x 0 (omega arith)) ∙ append_assoc (to_bits 8 (num_at x 0 8)) (drop 8 x) y) in
    rw (v, d, take-pack n m (drop 8 x) y (omega (arith, length-drop 8 x)) (omega arith))

-- ---- how many octets n bits lie in
pub octets-for-is : (n : ℕ) → n / 8 + min 1 (n % 8) ≡ octets_for n
octets-for-is n = omega arith

-- ---- the ways out of a delivery
module _ (p : Pen) (s o : List ℕ) where
  abbrev many : ℕ
  many = octets_for p.at

  unsent-is : (n : ℕ) (pdu : List ℕ) → (n ≡ 0 → ⊥) → delivered n pdu o ≡ unsent n o
  unsent-is zero pdu h = absurd (h refl)
  unsent-is (suc n) pdu h = refl

  pub deliver-kept : (p.refusal ≡ 0 → ⊥) → Hands p s o (Refused p.refusal) o
  unfolding deliver
  deliver-kept h =
      let r : ℕ = unless (leb many (length s) && leb many (length o)) 6 in
      let e : deliver p s o ≡ unsent p.refusal o =
      ap (λ (n : ℕ). delivered n (take many s) o) (first-not p.refusal r h) ∙ unsent-is p.refusal (take many s) h in
      record { answer_is = rw e; octets_is = rw e }

  pub deliver-off : p.refusal ≡ 0 → length s < many → Hands p s o (Refused 6) o
  unfolding deliver
  deliver-off z h = let e = lt-leb many (length s) h in record { answer_is = rw (z, e); octets_is = rw (z, e) }

  pub deliver-short : p.refusal ≡ 0 → many ≤ length s → length o < many → Hands p s o (Refused 6) o
  unfolding deliver
  deliver-short z l h =
      let e = le-leb many (length s) l in
      let f = lt-leb many (length o) h in
      record { answer_is = rw (z, e, f); octets_is = rw (z, e, f) }

  pub deliver-good : {t : List ℕ} → p.refusal ≡ 0 → many ≤ length s → many ≤ length o → t ≡ take many s ++ drop many o → Hands p s o (Octets many) t
  unfolding deliver
  deliver-good z l h q =
      let e = le-leb many (length s) l in
      let f = le-leb many (length o) h in
      let n : length (take many s) ≡ many = length-take-le many s l in
      record { answer_is = rw (z, e, f, n); octets_is = rw (z, e, f, n) q }

module _ {A : Type 0} (c : Codec A) (a : A) (l : length (c.enc a) ≤ 1024) where
  abbrev blank : List ℕ
  blank = replicate 128 0

  abbrev e : List Bool
  e = c.enc a

  -- the bits on the sheet: the value's, filled to an octet, and zeros
  sheet-bits : bits_of (put_bits blank 0 e) ≡ filled e ++ replicate (1024 - length (filled e)) false
  sheet-bits =
      let lf = length-filled e in
      let n : length e + (1024 - length e) ≡ 1024 = omega arith in
      let y : List Bool = replicate (length e) false in
      let z : List Bool = replicate (1024 - length e) false in
      let s : bits_of blank ≡ y ++ z = blank-bits 128 ∙ ap (λ (k : ℕ). replicate k false) (sym n) ∙ sym (replicate-append-replicate (length e) (1024 - length e) false) in
      let r : 1024 - length e ≡ fill (length e) + (1024 - length (filled e)) = omega arith in
      put-bits e [] y z blank refl (length-replicate (length e) false) s
      ∙ ap (λ (k : ℕ). e ++ replicate k false) r ∙ ap (λ (q : List Bool). e ++ q) (sym (replicate-append-replicate (fill (length e)) (1024 - length (filled e)) false))
      ∙ sym (append_assoc e (replicate (fill (length e)) false) (replicate (1024 - length (filled e)) false))

  sheet-encode : take (length (encode c a)) (put_bits blank 0 e) ≡ encode c a
  unfolding encode
  sheet-encode =
      let n : ℕ = length (filled e) / 8 in
      let lf = length-filled e in
      let q : length (pack n (filled e)) ≡ n = length-pack n (filled e) in
      ap (λ (k : ℕ). take k (put_bits blank 0 e)) q
      ∙ ap (λ (s : List ℕ). take n s) (sym (pack-bits (put_bits blank 0 e) 128 (length-put e 0 blank) (put_small e 0 blank (blank-small 128))) ∙ ap (λ (b : List Bool). pack 128 b) sheet-bits)
      ∙ take-pack n 128 (filled e) (replicate (1024 - length (filled e)) false) (omega arith) (omega arith)

  -- what the code writes on a blank sheet and delivers is what the definition of a write says
  pub delivers : (p : Pen) (s o : List ℕ) → Writes c blank (record { at = 0; refusal = 0 }) a p s → deliver p s o ≡ write_pdu c a o
  unfolding ink deliver write_pdu
  delivers p s o w = rw (w.pen_is, w.octets_is) (go (c.chk a))
    where
      n : ℕ
      n = octets_for (onward 0 (length e))

      size : n ≡ length (encode c a)
      size = omega (arith, length-encode c a)

      room : length (put_bits blank 0 e) ≡ 128
      room = length-put e 0 blank

      go : (k : ℕ) → delivered (first k (unless (leb n (length (put_bits blank 0 e)) && leb n (length o)) 6)) (take n (put_bits blank 0 e)) o
          ≡ delivered (first k (unless (leb (length (encode c a)) (length o)) 6)) (encode c a) o
      go zero =
          let m : n ≤ length (put_bits blank 0 e) = omega (arith, room) in
          rw (le-leb n (length (put_bits blank 0 e)) m, size, sheet-encode)
      go (suc k) = refl

-- a write changes octets and adds none
pub sheet-long : {A : Type 0} (c : Codec A) {s t : List ℕ} {p q : Pen} {a : A} → Writes c s p a q t → length t ≡ length s
unfolding ink
sheet-long c {s} {p = p} {a = a} w = ap length w.octets_is ∙ go (eqb p.refusal 0)
  where
    go : (b : Bool) → length (cond {A = Ink} b (record { pen = record { at = onward p.at (length (c.enc a)); refusal = c.chk a }; octets = put_bits s p.at (c.enc a) }) (record { pen = p; octets = s })).octets ≡ length s
    go true = length-put (c.enc a) p.at s
    go false = refl

-- ---- how tight the statement of a delivery is: one answer and one content of the output
pub delivers-one : {s o t u : List ℕ} (p : Pen) (x y : Result ℕ ℕ) → Delivers p s o x t → Delivers p s o y u → (x ≡ y) × (t ≡ u)
delivers-one p x y a b = (handed-alone x y (a.answer_is ∙ sym b.answer_is), a.octets_is ∙ sym b.octets_is)
