-- A refusal is of a list of numbers: of answers; and of the writing of a value, with a law for each kind of field and each way to put codecs together, all
-- found by `search fields`. Assumes nothing.
use mathlib.Core.Path.{◌≡◌}
use mathlib.Core.Bool.{Bool, true, false, not}
use mathlib.Core.List.{List}
use Prim.Native.Nat.{ℕ, zero, suc, ◌*◌}
use lib.Bits.{bit_and}
use lib.IntN.{ℤ, pos, negsuc}
use lib.Dec.{T, eqb, leb}
use Rattle.per.specs.Codec.{Codec, first, unless}
use Rattle.per.specs.Field.{raised_chk}
use Rattle.per.specs.Formats.{field, dep, via, only, absent, when, num, flag, extension, signed, mask, is_nil, vec, list16}
use Rattle.link.specs.Tests.{either, pick}
use Rattle.sides.specs.Tables.{member}

-- none, or a number of the list
pub record On (list : List ℕ) (n : ℕ) : Type 0 where
  pub is : T (either (eqb n 0) (member n list))

-- every value is written, or refused by a number of the list
pub record Held (list : List ℕ) {A : Type 0} (c : Codec A) : Type 0 where
  pub each : (a : A) → On list (c.chk a)

-- an answer is accepted, or refused by a number of the list
pub record Given (list : List ℕ) {A : Type 0} (number : A → ℕ) (a : A) : Type 0 where
  pub is : On list (number a)

module _ {list : List ℕ} where
  pub on : {n : ℕ} → T (either (eqb n 0) (member n list)) → On list n
  on t = record { is = t }

  -- a refusal is in the list
  pub in_list : {n : ℕ} → On list n → eqb n 0 ≡ false → T (member n list)
  in_list h e = rw e at h.is

  pub on_none : On list 0
  on_none = on tt

  pub on-first : {m n : ℕ} → On list m → On list n → On list (first m n)
  on-first {m} {n} a b = go m a
    where
      go : (k : ℕ) → On list k → On list (first k n)
      go zero p = b
      go (suc k) p = p

  pub on-unless : (b : Bool) (n : ℕ) → On list n → On list (unless b n)
  on-unless true n a = on_none
  on-unless false n a = a

  -- where the number is seen
  pub ok : {A : Type 0} {number : A → ℕ} {a : A} → T (either (eqb (number a) 0) (member (number a) list)) → Given list number a
  ok t = record { is = on t }

  pub on-pick : {A : Type 0} {number : A → ℕ} (b : Bool) {x y : A} → Given list number x → Given list number y → Given list number (pick b x y)
  on-pick true p q = p
  on-pick false p q = q

  pub a-number : (lo hi : ℕ) → On list 5 → Held list (num lo hi)
  unfolding field
  a-number lo hi five = record { each = λ n. on-first (on-unless (leb lo n) 5 five) (on-unless (leb n hi) 5 five) }

  pub a-flag : Held list flag
  unfolding field
  a-flag = record { each = λ b. on_none }

  pub a-mark : Held list extension
  unfolding field
  a-mark = record { each = λ u. on_none }

  pub a_signed : (k hi : ℕ) → On list 5 → Held list (signed k hi)
  unfolding field
  a_signed k hi five = record { each = λ a. go a.number }
    where
      go : (z : ℤ) → On list (raised_chk k hi z)
      go (pos n) = on-unless (leb n hi) 5 five
      go (negsuc n) = on-unless (leb (suc n) k) 5 five

  -- where no element need be there, 15 is no refusal
  pub a-mask : (all carried : ℕ) → On list 5 → On list 10 → Held list (mask all carried false)
  unfolding only field
  a-mask all carried five ten = record { each = λ v. on-first ((a-number 0 all five).each v) (on-first (on-unless (eqb (bit_and v carried) v) 10 ten) on_none) }

  pub a-full-mask : (all carried : ℕ) → On list 5 → On list 10 → On list 15 → Held list (mask all carried true)
  unfolding only field
  a-full-mask all carried five ten fifteen =
      record { each = λ v. on-first ((a-number 0 all five).each v) (on-first (on-unless (eqb (bit_and v carried) v) 10 ten) (on-unless (not (eqb v 0)) 15 fifteen)) }

  pub an-absent : {A : Type 0} (z : A) → Held list (absent z)
  unfolding absent
  an-absent z = record { each = λ a. on_none }

  pub a-when : {A : Type 0} (b : Bool) (z : A) (c : Codec A) → Held list c → Held list (when b z c)
  unfolding when
  a-when true z c h = h
  a-when false z c h = an-absent z

  pub a-dep : {A B : Type 0} (c : Codec A) (k : A → Codec B) → Held list c → ((a : A) → Held list (k a)) → Held list (dep c k)
  unfolding dep
  a-dep c k h g = record { each = λ p. on-first (h.each p.0) ((g (c.norm p.0)).each p.1) }

  pub a-via : {A B : Type 0} (c : Codec A) (to : A → B) (from : B → A) (ok : B → ℕ)
      (left : (a : A) → c.chk a ≡ 0 → c.norm a ≡ a → (ok (to a) ≡ 0) × (from (to a) ≡ a)) → Held list c → ((b : B) → On list (ok b)) → Held list (via c to from ok left)
  unfolding via
  a-via c to from ok left h g = record { each = λ b. on-first (g b) (h.each (from b)) }

  a-vec : {A : Type 0} (c : Codec A) (n : ℕ) → On list 5 → Held list c → Held list (vec c n)
  unfolding vec
  a-vec c zero five h = a-via _ _ _ _ _ (an-absent _) (λ l. on-unless (is_nil l) 5 five)
  a-vec c (suc n) five h = a-via _ _ _ _ _ (a-dep c (λ a. vec c n) h (λ a. a-vec c n five h)) (λ l. on-unless (not (is_nil l)) 5 five)

  pub a-list : {A : Type 0} (m : ℕ) (c : Codec A) → On list 5 → On list 12 → Held list c → Held list (list16 m c)
  unfolding list16 field
  a-list m c five twelve h = a-dep _ _ (record { each = λ n. on-unless (leb n 16) 12 twelve }) (λ n. a-vec c (n * m) five h)

pub ruleset fields = (on_none, a-number, a-flag, a-mark, a_signed, a-mask, a-full-mask, an-absent, a-when, a-dep, a-via, a-list)
