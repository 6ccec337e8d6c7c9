-- One field: so many bits, read and written as one number.
use Rattle.std.specs.Prelude.{ℕ, zero, suc, ◌+◌, ◌-◌, ◌^◌, ◌<◌, ◌≡◌, Bool, cond, List, length, eqb, leb, ℤ, pos, negsuc}
use Rattle.per.specs.declared.cursor.Cursor.{Cursor}
use Rattle.per.specs.Bits.{to_bits, num_at}
use Rattle.per.specs.Codec.{Out, out, place, refuse, unless, upto}
use Rattle.refusals.specs.Refusals.{CUT-SHORT, OUT-OF-RANGE}

-- `judge` is the refusal of a number that was sent, `chk` that of a value to write; `to` and `from` turn the number into the value and back
pub record Field (A : Type 0) : Type 0 where
  pub width : ℕ
  pub judge : ℕ → ℕ
  pub to : ℕ → A
  pub from : A → ℕ
  pub chk : A → ℕ
  pub none : A
  pub write : (a : A) → chk a ≡ 0 → (from a < 2 ^ width) × (judge (from a) ≡ 0) × (to (from a) ≡ a)
  pub read : (v : ℕ) → v < 2 ^ width → judge v ≡ 0 → (chk (to v) ≡ 0) × (from (to v) ≡ v)

-- the value and the place after it; or, where n is no 0, the refusal n at the field's place
abbrev pub settle : {A : Type 0} → ℕ → A → A → ℕ → ℕ → Out A
settle zero a z at to = out a (place to)
settle (suc n) a z at to = out z (refuse at (suc n))

-- 7 where the input ends inside the field, and then the judgement (01, "Refusal numbers": 7 before the judgement of each field)
abbrev pub read_field : {A : Type 0} → Field A → List Bool → Cursor → Out A
read_field f bs j =
    cond (eqb j.refusal 0)
    (cond (leb f.width (length bs - j.at))
    (settle (f.judge (num_at bs j.at f.width)) (f.to (num_at bs j.at f.width)) f.none j.at (j.at + f.width))
    (out f.none (refuse j.at CUT-SHORT)))
    (out f.none j)

-- the field's bits, none where it is refused
abbrev pub field_bits : {A : Type 0} → Field A → A → List Bool
field_bits f a = upto (f.chk a) (to_bits f.width (f.from a))

-- what is sent of a number of -k..hi: the number plus k; and the refusal of another number
abbrev pub raised : ℕ → ℤ → ℕ
raised k (pos n) = n + k
raised k (negsuc n) = k - suc n

abbrev pub raised_chk : ℕ → ℕ → ℤ → ℕ
raised_chk k hi (pos n) = unless (leb n hi) OUT-OF-RANGE
raised_chk k hi (negsuc n) = unless (leb (suc n) k) OUT-OF-RANGE
