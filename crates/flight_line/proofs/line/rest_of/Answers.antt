use Rattle.flight_line.specs.Lines.{rest_of}
use Rattle.text.proofs.Laws.{part-all}
use lib.ListN.{length, drop_of_length-le}
use native.Mathlib.Omega.{arith}
use Prim.Native.Nat.{◌+◌, ◌≤◌}
use mathlib.Core.Path.{refl}
use Rattle.flight_line.proofs.line.rest_of.Goals as goal

pub returns-then-line-e : goal.returns-then-line-e
unfolding rest_of
returns-then-line-e c = let l = c.args.line.now in let e : length l ≤ c.word_end-e.result + 1 = omega (arith, c.if-line-e.true) in rw (← c.word_end-e.ensures.is, drop_of_length-le l e)

pub returns : goal.returns
unfolding rest_of
returns c = let l = c.args.line.now in rw (← c.word_end-e.ensures.is) (part-all l (c.word_end-e.result + 1) (length l) refl)
