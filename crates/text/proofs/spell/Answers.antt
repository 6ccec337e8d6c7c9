use native.Mathlib.Omega.{arith}
use Rattle.text.proofs.Laws.{digits-done, digits-none}
use borrow.Author.Tests.{leb-true, leb-false}
use mathlib.Core.Path.{subst}
use Rattle.text.specs.Text.{decimal_onto}
use lib.ListN.{length-set}
use Rattle.text.specs.Text.{decimal}
use Rattle.text.proofs.Laws.{digit-step}
use lib.ListN.{drop}
use Prim.Native.Nat.{ℕ, suc, ◌-◌}
use mathlib.Core.Path.{◌≡◌, refl, sym, ◌∙◌}
use Rattle.text.proofs.spell.Goals as goal

pub loop-i-init : goal.loop-i-init
unfolding decimal
loop-i-init c = (omega arith, refl, refl)

pub loop-i-preserved : goal.loop-i-preserved
loop-i-preserved c = let l = c.loop-i.text in
    let n = c.loop-i.rest in
    let m : c.loop-i.i ≡ suc (c.loop-i.i - 1) = omega arith in
    (omega arith, simp length-set c.loop-i.invariant.1, digit-step l (c.loop-i.i - 1) n (omega arith) (omega (arith, leb-true)) ∙ subst (λ (z : ℕ). decimal_onto z n (drop z l) ≡ decimal c.args.n) m c.loop-i.invariant.2)

pub returns-else-rest-ge10 : goal.returns-else-rest-ge10
returns-else-rest-ge10 c = record { digits = sym (digits-done c.loop-i.i c.loop-i.rest _ (omega (arith, leb-false))) ∙ c.loop-i.invariant.2; within = c.loop-i.invariant.0; size = c.loop-i.invariant.1 }

pub returns-after-loop-i : goal.returns-after-loop-i
returns-after-loop-i c = record { digits = sym (digits-none c.loop-i.i c.loop-i.rest _ (omega arith)) ∙ c.loop-i.invariant.2; within = c.loop-i.invariant.0; size = c.loop-i.invariant.1 }
