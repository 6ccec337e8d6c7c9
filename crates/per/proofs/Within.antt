-- Which forms a codec reads: a law for each combinator, all found by `search forms`. Assumes nothing.
use Prim.Native.Nat.{ℕ, zero, suc, ◌*◌, ◌≤◌}
use mathlib.Core.Path.{◌≡◌}
use mathlib.Core.Bool.{Bool, true, false, cond}
use mathlib.Core.List.{List, [], ◌∷◌}
use lib.Dec.{eqb}
use native.Mathlib.Omega.{arith}
use Rattle.per.specs.Codec.{Codec, Within}
use Rattle.per.specs.Field.{Field}
use Rattle.per.specs.Shapes.{Other}
use Rattle.per.specs.Formats.{field, dep, via, recast, only, absent, when, Alt, alt_codec, never_codec, Arm, arm_codec, choice, vec, list16}

pub in_field : {A : Type 0} (n : ℕ) (f : Field A) → Within n (field f)
unfolding field
in_field n f = record { most = λ bs j. omega arith }

pub in-absent : {A : Type 0} (n : ℕ) (z : A) → Within n (absent z)
unfolding absent
in-absent n z = record { most = λ bs j. omega arith }

pub in-dep : {A B : Type 0} (n : ℕ) (c : Codec A) (k : A → Codec B) → Within n c → ((a : A) → Within n (k a)) → Within n (dep c k)
unfolding dep
in-dep n c k p q = record { most = λ bs j. omega (arith, p.most bs j, (q (c.run bs j).value).most bs (c.run bs j).next) }

pub in-via : {A B : Type 0} (n : ℕ) (c : Codec A) (to : A → B) (from : B → A) (ok : B → ℕ)
    (left : (a : A) → c.chk a ≡ 0 → c.norm a ≡ a → (ok (to a) ≡ 0) × (from (to a) ≡ a)) → Within n c → Within n (via c to from ok left)
unfolding via
in-via n c to from ok left p = record { most = p.most }

pub in-recast : {A B : Type 0} (n : ℕ) (c : Codec A) (to : A → B) (from : B → A) (ok : B → ℕ) (grade : A → ℕ)
    (left : (a : A) → c.chk a ≡ 0 → c.norm a ≡ a → grade a ≡ 0 → (ok (to a) ≡ 0) × (from (to a) ≡ a))
    (other : (a : A) → c.chk a ≡ 0 → c.norm a ≡ a → grade a ≡ 1 → Other c to from ok a)
    → Within n c → ((a : A) → grade a ≤ n) → Within n (recast c to from ok grade left other)
unfolding recast
in-recast n c to from ok grade left other p q = record { most = λ bs j. omega (arith, p.most bs j, q (c.run bs j).value) }

pub in-when : {A : Type 0} (n : ℕ) (b : Bool) (z : A) (c : Codec A) → Within n c → Within n (when b z c)
unfolding when
in-when n true z c p = p
in-when n false z c p = in-absent n z

pub in-only : {A : Type 0} (n : ℕ) (c : Codec A) (bad : A → ℕ) → Within n c → Within n (only c bad)
unfolding only
in-only n c bad p = record { most = p.most }

pub in-alternative : {E P : Type 0} (n : ℕ) (tag : E → ℕ) (i : ℕ) (c : Codec P) (make : P → E) (get : E → P) (t : (p : P) → tag (make p) ≡ i) (g : (p : P) → get (make p) ≡ p)
    → Within n c → Within n (alt_codec tag i c make get t g)
unfolding alt_codec
in-alternative n tag i c make get t g p = in-via _ _ _ _ _ _ p

pub in-never : {E : Type 0} (n : ℕ) (z : E) → Within n (never_codec z)
unfolding never_codec
in-never n z = in-only _ _ _ (in-absent n z)

-- what holds of each line of a table, and of what an unused index reads, holds at every index
infixr 20 ◌then◌
pub data Each {E : Type 0} {tag : E → ℕ} (P : Codec E → Type 0) : List (Arm tag) → Type 0 where
  all : Each P []
  ◌then◌ : {a : Arm tag} {more : List (Arm tag)} → P a.codec → Each P more → Each P (a ∷ more)

pub each_arm : {E : Type 0} {tag : E → ℕ} (P : Codec E → Type 0) (arms : List (Arm tag)) (z : E) → Each P arms → P (never_codec z) → (i : ℕ) → P (arm_codec arms z i)
each_arm P [] z all p i = p
each_arm P (a ∷ more) z (x then xs) p i = go (eqb a.index_is i) (each_arm P more z xs p i)
  where
    go : (b : Bool) → P (arm_codec more z i) → P (cond b a.codec (arm_codec more z i))
    go true r = x
    go false r = r

pub in-choices : {E : Type 0} (m top : ℕ) (tag : E → ℕ) (alts : (i : ℕ) → Alt tag i) → ((i : ℕ) → Within m (alts i).codec) → Within m (choice top tag alts)
unfolding choice
in-choices m top tag alts p = in-via _ _ _ _ _ _ (in-dep _ _ _ (in_field _ _) p)

pub in_vec : {A : Type 0} (m : ℕ) (c : Codec A) (n : ℕ) → Within m c → Within m (vec c n)
unfolding vec
in_vec m c zero p = in-via _ _ _ _ _ _ (in-absent _ _)
in_vec m c (suc n) p = in-via _ _ _ _ _ _ (in-dep _ _ _ p (λ a. in_vec m c n p))

pub in-list16 : {A : Type 0} (n m : ℕ) (c : Codec A) → Within n c → Within n (list16 m c)
unfolding list16
in-list16 n m c p = in-dep _ _ _ (in_field _ _) (λ k. in_vec n c (k * m) p)

pub ruleset forms = (in_field, in-absent, in-dep, in-via, in-when, in-only, in-alternative, in-never, in-choices, in-list16)
