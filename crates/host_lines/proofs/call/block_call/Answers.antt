use borrow.Author.Tests.{ne_eqb}
use Rattle.host_lines.specs.Calls.{block_done}
use Rattle.host_lines.proofs.call.block_call.Goals as goal

pub returns-in-14 : goal.returns-in-14
unfolding block_done
returns-in-14 c = rw (c.in-14.is, ← c.number-first.ensures) c.adsc_block_open.ensures

pub returns-in-15 : goal.returns-in-15
unfolding block_done
returns-in-15 c = rw (c.in-15.is, ← c.number-first.ensures, ← c.number.ensures) c.adsc_block_append.ensures

pub returns-in-16 : goal.returns-in-16
unfolding block_done
returns-in-16 c = rw c.in-16.is c.adsc_block_finish.ensures

pub returns-in_default : goal.returns-in_default
unfolding block_done
returns-in_default c = rw (ne_eqb _ 14 c.in_default.in_default-own.rest.0.0.1, ne_eqb _ 15 c.in_default.in_default-own.rest.0.1, ne_eqb _ 16 c.in_default.in_default-own.rest.1, ← c.number-first.ensures) c.adsc_block_play.ensures
