use mathlib.Core.Bool.{Bool}
use Rattle.log_bench.specs.Logs.{Outcome, Ends}
use Rattle.log_bench.proofs.player.run.Given as goal

abbrev pub invariant-loop-k : goal.invariant-loop-k
invariant-loop-k l =
    (o : Outcome) (f : Bool) → Ends l.k l.e.number l.e.setup o f → Ends 0 l.initial.e.number l.initial.e.setup o f
