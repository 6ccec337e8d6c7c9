use Rattle.text.specs.Numbers.{number_from}
use lib.ListN.{drop}
use mathlib.Core.Path.{◌≡◌}
use Rattle.text.proofs.digits.digits_of.Given as goal

abbrev pub invariant-loop-c : goal.invariant-loop-c
invariant-loop-c l = number_from l.v (drop l.c-index l.s) ≡ number_from 0 l.s
