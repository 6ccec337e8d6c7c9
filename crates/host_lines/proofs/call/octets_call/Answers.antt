use borrow.Author.Tests.{ne_eqb}
use Rattle.host_lines.specs.Calls.{octets_call}
use Rattle.host_lines.proofs.call.octets_call.Goals as goal

pub returns-in-6 : goal.returns-in-6
unfolding octets_call
returns-in-6 c = rw c.in-6.is c.adsc_start_confirm.ensures

pub returns-in-7 : goal.returns-in-7
unfolding octets_call
returns-in-7 c = rw c.in-7.is c.adsc_data.ensures

pub returns-in_default : goal.returns-in_default
unfolding octets_call
returns-in_default c = simp (ne_eqb _ 6 c.in_default.in_default-own.rest.0.1, ne_eqb _ 7 c.in_default.in_default-own.rest.1) c.adsc_air_abort.ensures
