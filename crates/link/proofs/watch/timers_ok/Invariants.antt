use mathlib.Core.Path.{◌≡◌}
use mathlib.Core.Bool.{true}
use Rattle.link.specs.Tests.{below}
use Rattle.link.specs.Watch.{timer_good}
use Rattle.link.proofs.watch.timers_ok.Given as goal

abbrev pub invariant-loop-t : goal.invariant-loop-t
invariant-loop-t l = below l.t (timer_good l.w l.at l.left l.most) ≡ true
