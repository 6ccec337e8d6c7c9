-- How long a value's bits can be: a law for each combinator, with which a message's bound is its codec once more. Assumes nothing.
use Prim.Native.Nat.{ℕ, zero, suc, ◌+◌, ◌-◌, ◌*◌, ◌≤◌}
use mathlib.Core.Path.{◌≡◌, refl}
use mathlib.Core.Bool.{Bool, true, false}
use mathlib.Core.List.{List, ◌++◌}
use native.Mathlib.Nat.{mul-le-mul_right}
use native.Mathlib.Omega.{arith}
use lib.Dec.{leb}
use lib.ListN.{length, length-append}
use borrow.Author.Tests.{leb-true}
use Rattle.per.specs.Bits.{to_bits, width}
use Rattle.per.specs.laws.Bits.{length-to_bits}
use Rattle.per.specs.Codec.{Codec, unless, upto}
use Rattle.per.specs.Field.{Field}
use Rattle.per.specs.Shapes.{Other}
use Rattle.per.specs.Formats.{field, extension_field, ext, dep, via, recast, only, absent, when, Alt, alt_codec, never_codec, num_field, choice, vec, list16}

-- no value has more than n bits
pub record Most {A : Type 0} (n : ℕ) (c : Codec A) : Type 0 where
  pub bits : (a : A) → length (c.enc a) ≤ n

upto-most : (k n : ℕ) (bs : List Bool) → length bs ≤ n → length (upto k bs) ≤ n
upto-most zero n bs h = h
upto-most (suc k) n bs h = omega arith

pub up : {A : Type 0} {c : Codec A} {m n : ℕ} → m ≤ n → Most m c → Most n c
up h x = record { bits = λ a. omega (arith, x.bits a, h) }

pub a-field : {A : Type 0} (f : Field A) → Most f.width (field f)
unfolding field
a-field f = record { bits = λ a. upto-most (f.chk a) f.width (to_bits f.width (f.from a)) (omega (arith, length-to_bits f.width (f.from a))) }

pub a_pair : {A B : Type 0} {c : Codec A} (k : A → Codec B) {m n : ℕ} → Most m c → ((a : A) → Most n (k a)) → Most (m + n) (dep c k)
unfolding dep
a_pair {c = c} k {m} {n} x y = record {
  bits = λ p.
      let d = (k (c.norm p.0)).enc p.1 in
      omega (arith, length-append (c.enc p.0) (upto (c.chk p.0) d), x.bits p.0, upto-most (c.chk p.0) n d ((y (c.norm p.0)).bits p.1));
}

pub a-like : {A B : Type 0} {c : Codec A} (to : A → B) (from : B → A) (ok : B → ℕ)
    (left : (a : A) → c.chk a ≡ 0 → c.norm a ≡ a → (ok (to a) ≡ 0) × (from (to a) ≡ a)) {n : ℕ} → Most n c → Most n (via c to from ok left)
unfolding via
a-like {c = c} to from ok left {n} x = record { bits = λ b. upto-most (ok b) n (c.enc (from b)) (x.bits (from b)) }

pub a-recast : {A B : Type 0} {c : Codec A} (to : A → B) (from : B → A) (ok : B → ℕ) (grade : A → ℕ)
    (left : (a : A) → c.chk a ≡ 0 → c.norm a ≡ a → grade a ≡ 0 → (ok (to a) ≡ 0) × (from (to a) ≡ a))
    (other : (a : A) → c.chk a ≡ 0 → c.norm a ≡ a → grade a ≡ 1 → Other c to from ok a)
    {n : ℕ} → Most n c → Most n (recast c to from ok grade left other)
unfolding recast
a-recast {c = c} to from ok grade left other {n} x = record { bits = λ b. upto-most (ok b) n (c.enc (from b)) (x.bits (from b)) }

-- an extension bit first
pub a-mark : {A : Type 0} {c : Codec A} {m n : ℕ} → suc m ≤ n → Most m c → Most n (ext c)
a-mark h x = up (omega (arith, h)) (a-like _ _ _ _ (a_pair _ (a-field extension_field) (λ u. x)))

pub an-only : {A : Type 0} {c : Codec A} (bad : A → ℕ) {n : ℕ} → Most n c → Most n (only c bad)
unfolding only
an-only {c = c} bad {n} x = record { bits = λ a. upto-most (bad (c.norm a)) n (c.enc a) (x.bits a) }

pub a-null : {A : Type 0} (z : A) (n : ℕ) → Most n (absent z)
unfolding absent
a-null z n = record { bits = λ a. omega arith }

pub a-when : {A : Type 0} {c : Codec A} (b : Bool) (z : A) {n : ℕ} → Most n c → Most n (when b z c)
unfolding when
a-when true z x = x
a-when false z {n} x = a-null z n

pub an-alt : {E P : Type 0} (tag : E → ℕ) (i : ℕ) {c : Codec P} (make : P → E) (get : E → P) (t : (p : P) → tag (make p) ≡ i) (g : (p : P) → get (make p) ≡ p)
    {n : ℕ} → Most n c → Most n (alt_codec tag i c make get t g)
unfolding alt_codec
an-alt tag i make get t g x = a-like make get _ _ x

pub an-unused : {E : Type 0} (z : E) (n : ℕ) → Most n (never_codec z)
unfolding never_codec
an-unused z n = an-only _ (a-null z n)

pub a-choice : {E : Type 0} (top : ℕ) (tag : E → ℕ) (alts : (i : ℕ) → Alt tag i) {n : ℕ} → ((i : ℕ) → Most n (alts i).codec) → Most (width (top - 0) + n) (choice top tag alts)
unfolding choice
a-choice top tag alts x = a-like _ _ _ _ (a_pair (λ i. (alts i).codec) (a-field (num_field 0 top)) x)

vec-most : {A : Type 0} {c : Codec A} {w : ℕ} → Most w c → (n : ℕ) → Most (n * w) (vec c n)
unfolding vec
vec-most {w = w} x zero = a-like _ _ _ _ (a-null _ (0 * w))
vec-most {c = c} {w} x (suc n) =
    let e : w + n * w ≤ suc n * w = omega arith in
    up e (a-like _ _ _ _ (a_pair (λ a. vec c n) x (λ a. vec-most x n)))

-- a list over 16 is refused at its count, before any bit
pub a-list : {A : Type 0} {c : Codec A} (m : ℕ) {w : ℕ} → Most w c → Most (8 + 16 * m * w) (list16 m c)
unfolding list16 dep field
a-list {A} {c} m {w} x = record { bits = λ p. go p (leb p.0 16) refl }
  where
    go : (p : ℕ × List A) (b : Bool) → leb p.0 16 ≡ b
        → length (upto (unless b 12) (to_bits 8 p.0) ++ upto (unless b 12) ((vec c (p.0 * m)).enc p.1)) ≤ 8 + 16 * m * w
    go p true e =
        let l = leb-true p.0 16 e in
        omega (
          arith,
          length-append (to_bits 8 p.0) ((vec c (p.0 * m)).enc p.1),
          length-to_bits 8 p.0,
          (vec-most x (p.0 * m)).bits p.1,
          mul-le-mul_right w (mul-le-mul_right m l),
        )
    go p false e = omega arith
