use borrow.Author.Tests.{eq-eqb, ne_eqb}
use mathlib.Core.Path.{refl}
use native.Mathlib.Omega.{arith}
use lib.ListN.{length}
use Rattle.text.proofs.Laws.{part-all}
use Rattle.script.specs.Fields.{number_after}
use Rattle.script.proofs.line.number_after.Goals as goal

pub returns-in-empty : goal.returns-in-empty
unfolding number_after
returns-in-empty c = rw (eq-eqb (length c.args.tail.now) 0 (omega arith))

pub returns-in-len1-up : goal.returns-in-len1-up
unfolding number_after
returns-in-len1-up c = let tail = c.args.tail.now in
    rw (ne_eqb (length tail) 0 (λ e. omega arith), ← part-all tail 1 (length tail) refl) c.parse_number.ensures
