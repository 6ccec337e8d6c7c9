-- Laws of refusals. Assumes nothing.
use Rattle.std.specs.Prelude.{ℕ, zero, suc, ◌≤◌, ◌<◌, ◌≡◌, refl, Bool, true, false, List, eqb, leb, ltb}
use Rattle.std.proofs.Common.{arith, eqb-true, le-leb, lt-ltb}
use Rattle.std.proofs.lemmas.Bool.{eqb-false, lt-leb}
use Rattle.per.specs.declared.cursor.Cursor.{Cursor}
use Rattle.per.specs.Codec.{Codec, first, unless}

pub first-0 : (m n : ℕ) → first m n ≡ 0 → m ≡ 0
first-0 zero n e = refl
first-0 (suc m) n e = e

pub first-1 : (m n : ℕ) → first m n ≡ 0 → n ≡ 0
first-1 zero n e = e
first-1 (suc m) n e = omega arith

pub first-00 : (m n : ℕ) → m ≡ 0 → n ≡ 0 → first m n ≡ 0
first-00 m n e f = rw (e, f)

pub first-not : (m n : ℕ) → (m ≡ 0 → ⊥) → first m n ≡ m
first-not zero n h = absurd (h refl)
first-not (suc m) n h = refl

pub unless-true : (b : Bool) (n : ℕ) → unless b (suc n) ≡ 0 → b ≡ true
unless-true true n h = refl
unless-true false n h = absurd (omega arith)

pub unless-le : (a b n : ℕ) → a ≤ b → unless (leb a b) n ≡ 0
unless-le a b n h = rw (le-leb a b h)

pub unless-gt : (a b n : ℕ) → b < a → unless (leb a b) n ≡ n
unless-gt a b n h = rw (lt-leb a b h)

pub unless-lt : (a b n : ℕ) → a < b → unless (ltb a b) n ≡ 0
unless-lt a b n h = rw (lt-ltb a b h)

-- where a reading ends with no refusal it began with none
pub unstuck : {A : Type 0} (c : Codec A) (bs : List Bool) (j : Cursor) → (c.run bs j).next.refusal ≡ 0 → j.refusal ≡ 0
unstuck c bs j h = go (eqb j.refusal 0) refl
  where
    go : (b : Bool) → eqb j.refusal 0 ≡ b → j.refusal ≡ 0
    go true e = eqb-true j.refusal 0 e
    go false e = rw (c.stuck bs j (eqb-false j.refusal 0 e)) at h
