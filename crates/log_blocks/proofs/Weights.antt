-- Whether all octets are zeros, as the iterator answers it. Assumes nothing.
use Prim.Native.Nat.{ℕ}
use mathlib.Core.Path.{◌≡◌, refl}
use mathlib.Core.Bool.{Bool, true, false, ◌&&◌}
use mathlib.Core.List.{List, [], ◌∷◌}
use lib.Dec.{eqb}
use Rattle.std.specs.List.{list_all}
use Rattle.link.specs.Tests.{both}
use Rattle.log_blocks.specs.Block.{all_zero}

-- ---- zeros
pub all_zero-is : (s : List ℕ) → list_all (λ x. eqb x 0) s ≡ all_zero s
all_zero-is [] = refl
all_zero-is (x ∷ s) = rw (all_zero-is s) (same (eqb x 0) (all_zero s))
  where
    same : (a b : Bool) → (a && b) ≡ both a b
    same true b = refl
    same false b = refl
