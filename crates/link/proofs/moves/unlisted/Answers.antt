use borrow.Author.Tests.{le-leb, lt-leb}
use native.Mathlib.Omega.{arith}
use Rattle.link.proofs.moves.unlisted.Goals as goal

pub returns-then-kind-le3 : goal.returns-then-kind-le3
returns-then-kind-le3 c = simp (le-leb c.args.kind 3 (omega arith))

pub returns-else-kind-le3 : goal.returns-else-kind-le3
returns-else-kind-le3 c = simp (lt-leb c.args.kind 3 (omega arith))
