use borrow.Author.Tests.{le-leb, lt-leb}
use native.Mathlib.Omega.{arith}
use Rattle.script.specs.Entries.{rest_of}
use Rattle.script.proofs.answer.rest_of.Goals as goal

pub returns-in-1-to-4 : goal.returns-in-1-to-4
unfolding rest_of
returns-in-1-to-4 c = rw (le-leb 1 c.args.c (omega arith), le-leb c.args.c 4 (omega arith))

pub returns-in_default : goal.returns-in_default
unfolding rest_of
returns-in_default c = rw (lt-leb 1 c.args.c (omega arith))

pub returns-in_default-2 : goal.returns-in_default-2
unfolding rest_of
returns-in_default-2 c = rw (le-leb 1 c.args.c (omega arith), lt-leb c.args.c 4 (omega arith))
