use mathlib.Core.Path.{refl, sym}
use borrow.Author.Tests.{not-true, not-false}
use native.Mathlib.Omega.{arith}
use Rattle.link.proofs.Laws.{below_more, below_fails, at-end}
use Rattle.link.specs.Watch.{timer_good}
use Rattle.link.specs.Names.{timers}
use Rattle.std.proofs.Common.{rules}
use Rattle.link.proofs.watch.timers_ok.Goals as goal

pub loop-t-init : goal.loop-t-init
loop-t-init c = refl

pub returns-then-not-timer_ok : goal.returns-then-not-timer_ok
unfolding timer_good
returns-then-not-timer_ok c = sym (below_fails (timer_good c.args.w c.args.at c.args.left c.args.most) timers c.loop-t.t (search rules) (rw (← c.watched.ensures, ← c.timer_ok.ensures) (not-true _ c.if-not-timer_ok.true-raw)))

pub loop-t-preserved : goal.loop-t-preserved
unfolding timer_good
loop-t-preserved c = below_more (timer_good c.args.w c.args.at c.args.left c.args.most) c.loop-t.t c.loop-t.invariant (rw (← c.watched.ensures, ← c.timer_ok.ensures) (not-false _ c.if-not-timer_ok.false-raw))

pub returns : goal.returns
returns c = at-end (timer_good c.args.w c.args.at c.args.left c.args.most) c.loop-t.t timers (omega arith) c.loop-t.invariant
