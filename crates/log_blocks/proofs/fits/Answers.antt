use Rattle.std.proofs.Common.{arith, rules, tests}
use Rattle.std.proofs.lemmas.Bool.Decides.{nat_tests}
use Rattle.log_blocks.specs.Tapes.{fitting}
use Rattle.log_blocks.proofs.fits.Goals as goal
use Rattle.log_blocks.proofs.fits.Goals.{then-size-eq-BLOCK, else-size-eq-BLOCK}

pub returns-then-used-le-ROOM : goal.returns-then-used-le-ROOM
unfolding fitting
returns-then-used-le-ROOM c = elim c.if-size-eq-BLOCK.branch [ then-size-eq-BLOCK w ↦ search (rules, tests) | else-size-eq-BLOCK w ↦ search (rules, tests) ]

pub returns-else-used-le-ROOM : goal.returns-else-used-le-ROOM
unfolding fitting
returns-else-used-le-ROOM c = elim c.if-size-eq-BLOCK.branch [ then-size-eq-BLOCK w ↦ grind (arith, nat_tests) | else-size-eq-BLOCK w ↦ grind (arith, nat_tests) ]
