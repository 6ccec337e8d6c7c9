use borrow.Author.Tests.{eq-eqb, ne_eqb, lt-ltb, le-ltb}
use Rattle.host_lines.specs.Calls.{called}
use Rattle.host_lines.proofs.CallLaws.{wrote_so, linked-so, kept-so}
use Rattle.host_lines.proofs.call.call.Goals as goal

pub returns-then-w-eq-WRITE_GROUND : goal.returns-then-w-eq-WRITE_GROUND
unfolding called
returns-then-w-eq-WRITE_GROUND c = rw (eq-eqb _ 1 c.if-w-eq-WRITE_GROUND.true) (wrote_so _ c.write_ground.ensures)

pub returns-then-w-eq-WRITE_AIR : goal.returns-then-w-eq-WRITE_AIR
unfolding called
returns-then-w-eq-WRITE_AIR c = rw (ne_eqb _ 1 c.if-w-eq-WRITE_GROUND.false, eq-eqb _ 2 c.if-w-eq-WRITE_AIR.true) (wrote_so _ c.write_air.ensures)

pub returns-then-w-gt-DOWN : goal.returns-then-w-gt-DOWN
unfolding called
returns-then-w-gt-DOWN c = rw (ne_eqb _ 1 c.if-w-eq-WRITE_GROUND.false, ne_eqb _ 2 c.if-w-eq-WRITE_AIR.false, lt-ltb 13 _ c.if-w-gt-DOWN.true) (linked-so (kept-so _ c.block_call-number.ensures))

pub returns : goal.returns
unfolding called
returns c = rw (ne_eqb _ 1 c.if-w-eq-WRITE_GROUND.false, ne_eqb _ 2 c.if-w-eq-WRITE_AIR.false, le-ltb 13 _ c.if-w-gt-DOWN.false) (linked-so c.link_call-number.ensures)
