use Rattle.std.proofs.Common.{◌≡◌, []}
use Rattle.link.specs.Acts.{acts, pushed_all}
use Rattle.link.specs.Clock.{stops_of}
use Rattle.link.proofs.clock.stops.Given as goal

abbrev pub invariant-loop-t : goal.invariant-loop-t
invariant-loop-t l = l.a ≡ pushed_all (acts []) (stops_of l.t l.left)
