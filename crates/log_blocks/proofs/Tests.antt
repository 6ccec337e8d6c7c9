-- No refusal, and octets that are zero. Assumes nothing.
use Prim.Native.Nat.{ℕ, zero, suc}
use mathlib.Core.Path.{◌≡◌, refl, ap, ◌∙◌}
use mathlib.Core.Bool.{Bool, true, false}
use mathlib.Core.List.{List, [], ◌∷◌}
use native.Mathlib.Omega.{arith}
use borrow.Author.Tests.{eqb-true}
use lib.Dec.{eqb}
use lib.ListN.{length}
use Rattle.link.specs.Tests.{pick}
use Rattle.text.proofs.Laws.{both_true}
use Rattle.octets.specs.Octets.{zeros}
use Rattle.log_blocks.specs.Block.{all_zero}

pub pick-none : (c : Bool) (x e : ℕ) → pick c x (suc e) ≡ 0 → (c ≡ true) × (x ≡ 0)
pick-none true x e h = (refl, h)
pick-none false x e h = absurd (omega (arith, h))

pub zeros-all : (n : ℕ) → all_zero (zeros n) ≡ true
zeros-all zero = refl
zeros-all (suc n) = zeros-all n

pub all-zeros : (s : List ℕ) → all_zero s ≡ true → s ≡ zeros (length s)
all-zeros [] h = refl
all-zeros (x ∷ s) h =
    let t = both_true (eqb x 0) (all_zero s) h in
    ap (λ (y : ℕ). y ∷ s) (eqb-true x 0 t.0) ∙ ap (λ (l : List ℕ). 0 ∷ l) (all-zeros s t.1)
