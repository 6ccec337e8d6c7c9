-- The kinds of a noncompliance, and what of an extended number is absent: nothing. Assumes nothing.
use Prim.Native.Nat.{ℕ, zero, suc}
use mathlib.Core.Path.{◌≡◌, refl}
use Rattle.per.specs.Formats.{field, dep, via, num, ext}
use Rattle.pdu_parts.specs.AirParts.{entry_top}

pub entry-rest : (k : ℕ) → (k ≡ 0 → ⊥) → (k ≡ 1 → ⊥) → 7 ≡ entry_top k
entry-rest zero h l = absurd (h refl)
entry-rest (suc zero) h l = absurd (l refl)
entry-rest (suc (suc k)) h l = refl

pub ext-norm : (lo hi v : ℕ) → (ext (num lo hi)).norm v ≡ v
unfolding via dep field
ext-norm lo hi v = refl
