use mathlib.Core.Path.{refl, ◌∙◌}
use mathlib.Core.Logic.{inl, inr}
use borrow.Author.Tests.{not-true, not-false}
use native.Mathlib.Omega.{arith}
use Rattle.text_lines.proofs.Pulling.{as-open, no-failure, pull-done, pull-more, pull-shut, pull-start}
use Rattle.text_lines.proofs.input.pull_line.Goals as goal

pub loop-init : goal.loop-init
loop-init c = (refl, refl, c.start_line-l.ensures.room, omega (arith, c.start_line-l.ensures.empty), c.start_line-l.ensures.well, λ w f a d. d)

pub extend-l-requires : goal.extend-l-requires
extend-l-requires c = c.loop.invariant.3

pub returns-then-l : goal.returns-then-l
returns-then-l c = let v = c.loop.invariant in
    let x = c.extend-l.ensures in
    record { none_failed = no-failure (x.failed_is ∙ v.4); line_is = λ _. pull-start _ _ c.start_line-l.ensures (v.5 _ _ _ (pull-done _ v.1 x (inl c.if-l.true))); within = x.within; room = omega (arith, x.at_is, v.2) }

pub returns-then-not-l : goal.returns-then-not-l
returns-then-not-l c = let v = c.loop.invariant in
    let x = c.extend-l.ensures in
    record { none_failed = no-failure (x.failed_is ∙ v.4); line_is = λ _. pull-start _ _ c.start_line-l.ensures (v.5 _ _ _ (pull-done _ v.1 x (inr (not-true _ c.if-not-l.true)))); within = x.within; room = omega (arith, x.at_is, v.2) }

pub returns-then-l-2 : goal.returns-then-l-2
returns-then-l-2 c = let e = c.refill-l.ensures in
    let x = c.extend-l.ensures in
    record { none_failed = λ _. e.found_is ∙ c.if-l.false; line_is = λ well. no-failure well c.if-l-2.true; within = rw e.len_is x.within; room = omega (arith, e.empty) }

pub loop-preserved : goal.loop-preserved
loop-preserved c = let v = c.loop.invariant in
    let x = c.extend-l.ensures in
    let e = c.refill-l.ensures in
    (c.refill-l.auto.chunk ∙ v.0, c.extend-l.auto.line ∙ v.1, omega (arith, e.empty), rw e.len_is x.within, c.if-l-2.false, λ w f a d. v.5 w f a (pull-more _ v.1 x c.if-l.false (not-false _ c.if-not-l.false) _ w f a (rw e.len_is at d)))

pub extend-requires : goal.extend-requires
extend-requires c = c.loop.invariant.3

pub returns : goal.returns
returns c = let v = c.loop.invariant in
    let x = c.extend.ensures in
    record { none_failed = no-failure (x.failed_is ∙ v.4); line_is = λ _. pull-start _ _ c.start_line-l.ensures (v.5 _ _ _ (pull-shut _ (pull-done _ v.1 x (inr (as-open x))))); within = x.within; room = omega (arith, x.at_is, v.2) }
