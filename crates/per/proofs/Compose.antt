-- How readings compose: a law for each combinator, with which the proof of a record's reader is the record's codec once more. Assumes nothing.
use Prim.Native.Nat.{ℕ, zero, suc, ◌+◌, ◌-◌, ◌≤◌}
use mathlib.Core.Path.{◌≡◌, refl, sym, ap, subst, ◌∙◌}
use mathlib.Core.Bool.{Bool, true, false, cond}
use mathlib.Core.List.{List, [], ◌∷◌, ◌++◌}
use native.Mathlib.Omega.{arith}
use lib.Dec.{eqb, leb, eqb-suc-zero}
use lib.ListN.{length}
use borrow.Author.Tests.{eq-eqb, ne_eqb, eqb-true, eqb-false, leb-true}
use Rattle.per.specs.declared.cursor.Cursor.{Cursor}
use Rattle.per.specs.declared.cursor.Read.{Read}
use Rattle.per.specs.Codec.{Codec, Out, out, place, refuse}
use Rattle.per.specs.laws.Codec.{unless-true}
use Rattle.per.specs.Bits.{num_at}
use Rattle.per.specs.Field.{Field, settle}
use Rattle.per.specs.Shapes.{Other}
use Rattle.per.specs.Formats.{field, num_field, num, count_field, count, vec, dep, via, recast, only, absent, when, ext, extension, pair, Alt, alt_codec, choice, choice_left, index}
use Rattle.per.specs.Pdu.{window}
use Rattle.per.specs.Reading.{Reads}
use Rattle.per.specs.ReadingInner.{settled}

-- one after the other
pub then : {A B : Type 0} {c : Codec A} {d : Codec B} {s : List ℕ} {j n m : Cursor} {a : A} {b : B}
    → Reads c s j a n → Reads d s n b m → Reads (pair c d) s j (a, b) m
unfolding dep
then p q = record { value_is = rw (p.value_is, ← p.next_is, q.value_is); next_is = rw (← p.next_is) q.next_is }

-- the same bits for another type
pub like : {A B : Type 0} {c : Codec A} (to : A → B) (from : B → A) (ok : B → ℕ)
    (left : (a : A) → c.chk a ≡ 0 → c.norm a ≡ a → (ok (to a) ≡ 0) × (from (to a) ≡ a))
    {s : List ℕ} {j n : Cursor} {a : A} → Reads c s j a n → Reads (via c to from ok left) s j (to a) n
unfolding via
like to from ok left p = record { value_is = ap to p.value_is; next_is = p.next_is }

pub recast-like : {A B : Type 0} {c : Codec A} (to : A → B) (from : B → A) (ok : B → ℕ) (grade : A → ℕ)
    (left : (a : A) → c.chk a ≡ 0 → c.norm a ≡ a → grade a ≡ 0 → (ok (to a) ≡ 0) × (from (to a) ≡ a))
    (other : (a : A) → c.chk a ≡ 0 → c.norm a ≡ a → grade a ≡ 1 → Other c to from ok a)
    {s : List ℕ} {j n : Cursor} {a : A} → Reads c s j a n → Reads (recast c to from ok grade left other) s j (to a) n
unfolding recast
recast-like to from ok grade left other p = record { value_is = ap to p.value_is; next_is = p.next_is }

-- one, and then what its value picks
pub by : {A B : Type 0} {c : Codec A} (k : A → Codec B) {s : List ℕ} {j n m : Cursor} {a : A} {b : B}
    → Reads c s j a n → Reads (k a) s n b m → Reads (dep c k) s j (a, b) m
unfolding dep
by k p q = record { value_is = rw (← p.value_is, ← p.next_is, q.value_is); next_is = rw (← p.value_is, ← p.next_is) q.next_is }

-- an optional part
pub when-there : {A : Type 0} {c : Codec A} (z : A) (b : Bool) {s : List ℕ} {j n : Cursor} {a : A} → b ≡ true → Reads c s j a n → Reads (when b z c) s j a n
unfolding when
when-there z b e p = rw e p

pub when-absent : {A : Type 0} (c : Codec A) {z : A} (b : Bool) {s : List ℕ} {j : Cursor} → b ≡ false → Reads (when b z c) s j z j
unfolding when absent
when-absent c b e = rw e (record { value_is = refl; next_is = refl })

-- an extension bit first
pub after-ext : {A : Type 0} {c : Codec A} {s : List ℕ} {j n m : Cursor} {a : A} → Reads extension s j (record {}) n → Reads c s n a m → Reads (ext c) s j a m
after-ext p q = like (λ x. x.1) (λ x. (record {}, x)) (λ x. 0) (λ x g e. (refl, refl)) (then p q)

-- an alternative, and a choice of it
pub in-alt : {E P : Type 0} (tag : E → ℕ) (i : ℕ) {c : Codec P} (make : P → E) (get : E → P) (t : (p : P) → tag (make p) ≡ i) (g : (p : P) → get (make p) ≡ p)
    {s : List ℕ} {j n : Cursor} {p : P} → Reads c s j p n → Reads (alt_codec tag i c make get t g) s j (make p) n
unfolding alt_codec via
in-alt tag i make get t g r = record { value_is = ap make r.value_is; next_is = r.next_is }

pub in-choice : {E : Type 0} (top : ℕ) (tag : E → ℕ) (alts : (i : ℕ) → Alt tag i) (k : ℕ) {s : List ℕ} {j m q : Cursor} {i : ℕ} {e : E}
    → i ≡ k → Reads (index top) s j i m → Reads (alts k).codec s m e q → Reads (choice top tag alts) s j e q
unfolding choice
in-choice top tag alts k h r x =
    like (λ p. p.1) (λ a. (tag a, a)) (λ a. 0) (λ p g z. (refl, choice_left top tag alts p g))
    (by (λ u. (alts u).codec) r (rw h x))

-- no bits
pub nothing : {A : Type 0} {z : A} {s : List ℕ} {j : Cursor} → Reads (absent z) s j z j
unfolding absent
nothing = record { value_is = refl; next_is = refl }

-- a further judgement
module _ {A : Type 0} {c : Codec A} (bad : A → ℕ) {s : List ℕ} {j n : Cursor} {a : A} (r : Reads c s j a n) where
  pub only_kept : (n.refusal ≡ 0 → ⊥) → Reads (only c bad) s j a n
  unfolding only
  only_kept h =
      let e = ne_eqb (c.run (window s) j).next.refusal 0 (λ z. h (ap (λ (i : Cursor). i.refusal) r.next_is ∙ z)) in
      record { value_is = rw e r.value_is; next_is = rw e r.next_is }

  pub only-bad : (k : ℕ) {z : A} → z ≡ c.none → n.refusal ≡ 0 → bad a ≡ suc k → Reads (only c bad) s j z (refuse j.at (suc k))
  unfolding only
  only-bad k q z h =
      let e = eq-eqb (c.run (window s) j).next.refusal 0 (ap (λ (i : Cursor). i.refusal) (sym r.next_is) ∙ z) in
      let b : bad (c.run (window s) j).value ≡ suc k = ap bad (sym r.value_is) ∙ h in
      record { value_is = rw (e, b) q; next_is = rw (e, b) }

  pub only-good : n.refusal ≡ 0 → bad a ≡ 0 → Reads (only c bad) s j a n
  unfolding only
  only-good z h =
      let e = eq-eqb (c.run (window s) j).next.refusal 0 (ap (λ (i : Cursor). i.refusal) (sym r.next_is) ∙ z) in
      let b : bad (c.run (window s) j).value ≡ 0 = ap bad (sym r.value_is) ∙ h in
      let p : n ≡ place n.at = λ i. record { at = n.at; refusal = z i } in
      record { value_is = rw (e, b) r.value_is; next_is = rw (e, b) (p ∙ ap (λ (i : Cursor). place i.at) r.next_is) }

-- the same with the judgement as a number
pub only-settled : {c : Codec ℕ} (bad : ℕ → ℕ) {s : List ℕ} {j : Cursor} (t : Read ℕ) (m : ℕ) → Reads c s j t.value t.next → c.none ≡ 0 → m ≡ bad t.value
    → Reads (only c bad) s j (settled j t m).value (settled j t m).next
unfolding settled
only-settled {c} bad {s} {j} t m r z q = go (eqb t.next.refusal 0) refl m refl
  where
    go : (b : Bool) → eqb t.next.refusal 0 ≡ b → (k : ℕ) → m ≡ k
        → Reads (only c bad) s j (cond b (cond (eqb k 0) t (record { value = 0; next = refuse j.at k })) t).value
        (cond b (cond (eqb k 0) t (record { value = 0; next = refuse j.at k })) t).next
    go true f zero h = only-good bad r (eqb-true t.next.refusal 0 f) (sym q ∙ h)
    go true f (suc k) h = rw (eqb-suc-zero k) (only-bad bad r k (sym z) (eqb-true t.next.refusal 0 f) (sym q ∙ h))
    go false f k h = only_kept bad r (eqb-false t.next.refusal 0 f)

-- ---- one entry more of a list
vec-snoc : {A : Type 0} (c : Codec A) (n : ℕ) (bs : List Bool) (j : Cursor)
    → (vec c (suc n)).run bs j ≡ out (((vec c n).run bs j).value ++ ((c.run bs ((vec c n).run bs j).next).value ∷ [])) (c.run bs ((vec c n).run bs j).next).next
unfolding vec via dep absent
vec-snoc c zero bs j = refl
vec-snoc {A} c (suc n) bs j = ap (λ (o : Out (List A)). out ((c.run bs j).value ∷ o.value) o.next) (vec-snoc c n bs (c.run bs j).next)

pub one_more : {A : Type 0} (c : Codec A) (n : ℕ) {s : List ℕ} {j m k : Cursor} {l : List A} {a : A}
    → Reads (vec c n) s j l m → Reads c s m a k → Reads (vec c (suc n)) s j (l ++ (a ∷ [])) k
one_more c n {s} {j} p q =
    let e = vec-snoc c n (window s) j in
    record { value_is = rw (e, ← p.value_is, ← p.next_is, q.value_is); next_is = rw (e, ← p.next_is) q.next_is }

-- as many values as were asked for, read or not
pub vec-long : {A : Type 0} (c : Codec A) (n : ℕ) (bs : List Bool) (j : Cursor) → length ((vec c n).run bs j).value ≡ n
unfolding vec via dep absent
vec-long c zero bs j = refl
vec-long c (suc n) bs j = ap suc (vec-long c n bs (c.run bs j).next)

-- ---- what holds of the empty value, and of each number that is judged good, holds of what is read
all_ways : {A : Type 0} (P : A → Type 0) (b d : Bool) (n : ℕ) (a z : A) (at end : ℕ) (j : Cursor) → P z → (n ≡ 0 → P a)
    → P (cond b (cond d (settle n a z at end) (out z (refuse at 7))) (out z j)).value
all_ways P true true zero a z at end j p q = q refl
all_ways P true true (suc n) a z at end j p q = p
all_ways P true false n a z at end j p q = p
all_ways P false d n a z at end j p q = p

pub field-all : {A : Type 0} (P : A → Type 0) (f : Field A) {s : List ℕ} {j n : Cursor} {a : A} → P f.none → ((v : ℕ) → f.judge v ≡ 0 → P (f.to v))
    → Reads (field f) s j a n → P a
unfolding field
field-all P f {s} {j} p q r =
    let v : ℕ = num_at (window s) j.at f.width in
    subst P (sym r.value_is) (all_ways P (eqb j.refusal 0) (leb f.width (length (window s) - j.at)) (f.judge v) (f.to v) f.none j.at (j.at + f.width) j p (q v))

-- a number that was read is at most its highest, a count at most 16
pub num-most : (lo hi : ℕ) {s : List ℕ} {j n : Cursor} {v : ℕ} → Reads (num lo hi) s j v n → v ≤ hi
num-most lo hi r = field-all (λ (v : ℕ). v ≤ hi) (num_field lo hi) (omega arith) (λ v g. leb-true (lo + v) hi (unless-true (leb (lo + v) hi) 7 g)) r

pub count_most : {s : List ℕ} {j n : Cursor} {v : ℕ} → Reads count s j v n → v ≤ 16
count_most r = field-all (λ (v : ℕ). v ≤ 16) count_field (omega arith) (λ v g. leb-true v 16 (unless-true (leb v 16) 11 g)) r

-- a number that is at least n and is not n is at least n + 1: for the last arm of a match
pub climb : (k n : ℕ) → n ≤ k → (k ≡ n → ⊥) → suc n ≤ k
climb k n h e = omega arith

-- ---- how tight the statement is: one value and one cursor
pub reads-one : {A : Type 0} {c : Codec A} {s : List ℕ} {j n m : Cursor} {a b : A} → Reads c s j a n → Reads c s j b m → (a ≡ b) × (n ≡ m)
reads-one p q = (p.value_is ∙ sym q.value_is, p.next_is ∙ sym q.next_is)
