use borrow.Author.Tests.{ne_eqb}
use Rattle.host_lines.specs.Calls.{link_done}
use Rattle.host_lines.proofs.CallLaws.{opens-so}
use Rattle.host_lines.proofs.call.link_call.Goals as goal

pub returns-in-3 : goal.returns-in-3
unfolding link_done
returns-in-3 c = rw c.in-3.is (opens-so _ c.adsc_open.ensures)

pub returns-in-4 : goal.returns-in-4
unfolding link_done
returns-in-4 c = rw c.in-4.is c.adsc_request.ensures

pub returns-in-5 : goal.returns-in-5
unfolding link_done
returns-in-5 c = rw (c.in-5.is, ← c.number.ensures) c.adsc_elapse.ensures

pub returns-in_default : goal.returns-in_default
unfolding link_done
returns-in_default c = simp (ne_eqb _ 3 c.in_default.in_default-own.rest.0.0.1, ne_eqb _ 4 c.in_default.in_default-own.rest.0.1, ne_eqb _ 5 c.in_default.in_default-own.rest.1) c.other_call.ensures
