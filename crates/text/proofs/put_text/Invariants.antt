use Rattle.text.specs.Page.{page, wrote}
use lib.ListN.{length, drop}
use mathlib.Core.Path.{◌≡◌}
use Rattle.text.proofs.put_text.Given as goal

abbrev pub invariant-loop-c : goal.invariant-loop-c
invariant-loop-c l = (length l.out ≡ length l.initial.out) × (wrote (page l.out l.a) (drop l.c-index l.s) ≡ wrote (page l.initial.out l.at) l.s)
