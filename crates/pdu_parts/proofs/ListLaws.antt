-- Lists in arrays, entry by entry. Assumes nothing.
use Prim.Native.Nat.{ℕ, suc, ◌+◌, ◌-◌, ◌*◌, ◌/◌, ◌%◌, ◌≤◌, ◌<◌}
use mathlib.Core.Path.{◌≡◌, refl, sym, ap, subst, ◌∙◌}
use mathlib.Core.Bool.{Bool, true, false}
use mathlib.Core.List.{List, [], ◌∷◌, ◌++◌, append_assoc}
use native.Mathlib.Nat.{add_assoc, mul-le-mul_left}
use native.Mathlib.Numerals.{add-one}
use native.Mathlib.Omega.{arith}
use lib.ListN.{length, get_or, set, take, replicate}
use lib.Seq.{set_at, take-suc, length-take-le}
use Rattle.per.specs.declared.cursor.Cursor.{Cursor}
use Rattle.per.specs.declared.pen.Pen.{Pen}
use Rattle.per.specs.Codec.{Codec}
use Rattle.per.specs.laws.Codec.{unless-gt}
use Rattle.per.specs.Bits.{width, width_in}
use Rattle.per.specs.Formats.{field, via, absent, run, num, extension, count, vec, list16}
use Rattle.per.specs.Pdu.{window}
use Rattle.per.specs.Reading.{Reads}
use Rattle.per.proofs.Compose.{by, like, after-ext, one_more, vec-long, num-most}
use Rattle.per.proofs.Peels.{peel, all_of}
use Rattle.per.specs.Writing.{Writes}
use Rattle.per.proofs.Inks.{inks-by, inks-first, inks-like, inks-ext, inks-more}
use Rattle.pdu_parts.specs.Lists.{listed, listed_left, entry_c}
use Rattle.pdu_parts.specs.ListsInner.{Filled}

-- ---- one entry
module _ (marked : Bool) (top : ℕ) {s : List ℕ} {j m n : Cursor} {v : ℕ} where
  pub entry-marked : marked ≡ true → Reads extension s j (record {}) m → Reads (num 0 top) s m v n → (Reads (entry_c marked top) s j v n) × (v ≤ top)
  unfolding entry_c
  entry-marked e p q = (rw e (after-ext p q), num-most 0 top q)

pub entry-plain : (marked : Bool) (top : ℕ) {s : List ℕ} {j n : Cursor} {v : ℕ} → marked ≡ false → Reads (num 0 top) s j v n → (Reads (entry_c marked top) s j v n) × (v ≤ top)
unfolding entry_c
entry-plain marked top e q = (rw e q, num-most 0 top q)

pub entry-marked-inks : (marked : Bool) (top : ℕ) {s t u : List ℕ} {p q r : Pen} {v : ℕ} → marked ≡ true
    → Writes extension s p (record {}) q t → Writes (num 0 top) t q v r u → Writes (entry_c marked top) s p v r u
unfolding entry_c
entry-marked-inks marked top e x y = rw e (inks-ext x y)

pub entry-plain-inks : (marked : Bool) (top : ℕ) {s t : List ℕ} {p q : Pen} {v : ℕ} → marked ≡ false → Writes (num 0 top) s p v q t → Writes (entry_c marked top) s p v q t
unfolding entry_c
entry-plain-inks marked top e x = rw e x

-- 16 entries of 8 numbers fill the array
pub few : (n m : ℕ) → n ≤ 16 → m ≤ 8 → n * m ≤ 128
few n m h l = omega (arith, mul-le-mul_left n l)

-- ---- reading the entries
pub filled_none : (c : Codec ℕ) (s : List ℕ) (j : Cursor) → Filled c 0 s j (replicate 128 0) j
unfolding vec via absent
filled_none c s j = record { items_are = refl; next_is = refl }

pub filled_more : (c : Codec ℕ) (n : ℕ) {s items : List ℕ} {j next k : Cursor} {v : ℕ} → n < 128 → Filled c n s j items next → Reads c s next v k
    → Filled c (n + 1) s j (set items n v) k
filled_more c n {s} {j = j} {v = v} h f q =
    let l : List ℕ = ((vec c n).run (window s) j).value in
    let m = one_more c n (record { value_is = refl; next_is = f.next_is }) q in
    let z : 128 - n ≡ suc (128 - suc n) = omega arith in
    let e : set (l ++ replicate (128 - n) 0) n v ≡ (l ++ (v ∷ [])) ++ replicate (128 - suc n) 0 =
    ap (λ (k : ℕ). set (l ++ replicate k 0) n v) z ∙ set_at l 0 (replicate (128 - suc n) 0) v n (vec-long c n (window s) j)
    ∙ sym (append_assoc l (v ∷ []) (replicate (128 - suc n) 0)) in
    rw (add-one n) (record {
      items_are = ap (λ (x : List ℕ). set x n v) f.items_are ∙ e ∙ ap (λ (x : List ℕ). x ++ replicate (128 - suc n) 0) m.value_is;
      next_is = m.next_is;
    })

-- half a name: four characters of one run
pub filled-four : (n : ℕ) {s items : List ℕ} {j next k : Cursor} {v : ℕ} → n + 4 ≤ 128 → Filled (entry_c false 127) n s j items next → Reads (run 28) s next v k → k.refusal ≡ 0
    → Filled (entry_c false 127) (n + 4) s j
    (set (set (set (set items n (v / 2097152)) (n + 1) (v % 2097152 / 16384)) (n + 2) (v % 2097152 % 16384 / 128)) (n + 3) (v % 2097152 % 16384 % 128)) k
unfolding width width_in entry_c
filled-four n {s} {items} {j} h f u z =
    let first = peel 7 21 (omega arith) u z in
    let second = peel 7 14 (omega arith) first.1 z in
    let third = peel 7 7 (omega arith) second.1 z in
    let a = filled_more (num 0 127) n (omega arith) f (all_of 127 7 refl (omega arith) refl first.0 refl) in
    let b = filled_more (num 0 127) (n + 1) (omega arith) a (all_of 127 7 refl (omega arith) refl second.0 refl) in
    let c = filled_more (num 0 127) (n + 2) (omega arith) (rw (add_assoc n 1 1) at b) (all_of 127 7 refl (omega arith) refl third.0 refl) in
    let d = filled_more (num 0 127) (n + 3) (omega arith) (rw (add_assoc n 2 1) at c) (all_of 127 7 refl (omega arith) refl third.1 z) in
    rw (add_assoc n 3 1) at d

pub listed-reads : (m : ℕ) (c : Codec ℕ) {s items : List ℕ} {j k next : Cursor} {n : ℕ} → Reads count s j n k → Filled c (n * m) s k items next
    → Reads (listed m c) s j (record { count = n; items = items }) next
unfolding listed list16
listed-reads m c {s} {items} {j} {k} {next} {n} r f =
    let l : List ℕ = ((vec c (n * m)).run (window s) k).value in
    let z : 128 - n * m ≡ 128 - length l = ap (λ (i : ℕ). 128 - i) (sym (vec-long c (n * m) (window s) k)) in
    let e : items ≡ l ++ replicate (128 - length l) 0 = f.items_are ∙ ap (λ (i : ℕ). l ++ replicate i 0) z in
    subst (λ (x : List ℕ). Reads (listed m c) s j (record { count = n; items = x }) next) (sym e)
    (like _ _ _ (λ p h q. listed_left m c p h) (by (λ i. vec c (i * m)) r (record { value_is = refl; next_is = f.next_is })))

-- ---- writing the entries
pub items_more : (c : Codec ℕ) (n : ℕ) (items : List ℕ) {s t u : List ℕ} {p q r : Pen} → n < length items
    → Writes (vec c n) s p (take n items) q t → Writes c t q (get_or items n 0) r u → Writes (vec c (n + 1)) s p (take (n + 1) items) r u
items_more c n items h x y =
    rw (add-one n, take-suc items n 0 h) (inks-more c (get_or items n 0) n (take n items) (length-take-le n items (omega arith)) x y)

pub listed-inks : (m : ℕ) (c : Codec ℕ) {s t u items : List ℕ} {p q r : Pen} {n : ℕ} → Writes count s p n q t → Writes (vec c (n * m)) t q (take (n * m) items) r u
    → Writes (listed m c) s p (record { count = n; items = items }) r u
unfolding listed list16 field
listed-inks m c x y = inks-like _ _ _ _ refl (inks-by count (λ i. vec c (i * m)) x y)

pub listed-barred : (m : ℕ) (c : Codec ℕ) {s t items : List ℕ} {p q : Pen} {n : ℕ} → 16 < n → Writes count s p n q t
    → Writes (listed m c) s p (record { count = n; items = items }) q t
unfolding listed list16 field
listed-barred m c {n = n} h x = inks-like _ _ _ _ refl (inks-first count (λ i. vec c (i * m)) _ 11 (unless-gt n 16 12 h) x)
