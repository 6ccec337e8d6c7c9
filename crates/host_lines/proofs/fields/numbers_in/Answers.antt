use native.Mathlib.Omega.{arith}
use mathlib.Core.Path.{◌≡◌, refl, sym, subst, ◌∙◌}
use Prim.Native.Nat.{ℕ, suc, ◌+◌, ◌-◌}
use lib.ListN.{drop}
use Rattle.host_lines.specs.Fields.{numbers_from, numbers_in}
use Rattle.host_lines.proofs.NumberLaws.{numbers-end, numbers_more, numbers-stop, numbers-within, numbers-out}
use Rattle.host_lines.proofs.fields.numbers_in.Goals as goal

pub loop-i-init : goal.loop-i-init
unfolding numbers_in
loop-i-init c = (omega arith, refl)

pub returns-then-at-s : goal.returns-then-at-s
returns-then-at-s c = let s = c.args.s.now in
    let q : 48 - c.loop-i.i ≡ suc (48 - (c.loop-i.i + 1)) = omega arith in
    let v = subst (λ (z : ℕ). numbers_from z c.loop-i.i c.loop-i.list (drop c.loop-i.at s) ≡ numbers_in s) q c.loop-i.invariant.1 in
    numbers-end (48 - (c.loop-i.i + 1)) c.loop-i.i c.loop-i.list s c.loop-i.at c.loop-i.invariant.0 c.if-at-s.true ∙ v

pub returns-in_default : goal.returns-in_default
returns-in_default c = let s = c.args.s.now in
    let q : 48 - c.loop-i.i ≡ suc (48 - (c.loop-i.i + 1)) = omega arith in
    let v = subst (λ (z : ℕ). numbers_from z c.loop-i.i c.loop-i.list (drop c.loop-i.at s) ≡ numbers_in s) q c.loop-i.invariant.1 in
    c.no_numbers.ensures ∙ numbers-stop (48 - (c.loop-i.i + 1)) c.loop-i.i c.loop-i.list s c.loop-i.at c.loop-i.invariant.0 c.if-at-s.false (sym c.in_default.is ∙ c.number_step.ensures) ∙ v

pub overflow_add-at : goal.overflow_add-at
overflow_add-at c = let s = c.args.s.now in
    omega (arith, numbers-within (48 - (c.loop-i.i + 1)) c.loop-i.i c.loop-i.list s c.loop-i.at c.loop-i.invariant.0 c.if-at-s.false c.in-Some.n c.in-Some.ensures)

pub loop-i-preserved : goal.loop-i-preserved
loop-i-preserved c = let s = c.args.s.now in
    let q : 48 - c.loop-i.i ≡ suc (48 - (c.loop-i.i + 1)) = omega arith in
    let v = subst (λ (z : ℕ). numbers_from z c.loop-i.i c.loop-i.list (drop c.loop-i.at s) ≡ numbers_in s) q c.loop-i.invariant.1 in
    (numbers-within (48 - (c.loop-i.i + 1)) c.loop-i.i c.loop-i.list s c.loop-i.at c.loop-i.invariant.0 c.if-at-s.false c.in-Some.n c.in-Some.ensures, numbers_more (48 - (c.loop-i.i + 1)) c.loop-i.i c.loop-i.list s c.loop-i.at c.loop-i.invariant.0 c.if-at-s.false c.in-Some.n c.in-Some.ensures ∙ v)

pub returns : goal.returns
returns c = let s = c.args.s.now in
    c.no_numbers-2.ensures ∙ numbers-out (48 - c.loop-i.i) c.loop-i.i c.loop-i.list (drop c.loop-i.at s) (omega arith) ∙ c.loop-i.invariant.1
