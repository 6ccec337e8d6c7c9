use borrow.Author.Tests.{ne_eqb}
use Rattle.host_lines.specs.Calls.{plain_call}
use Rattle.host_lines.proofs.call.plain_call.Goals as goal

pub returns-in-9 : goal.returns-in-9
unfolding plain_call
returns-in-9 c = rw c.in-9.is c.adsc_user_abort.ensures

pub returns-in-10 : goal.returns-in-10
unfolding plain_call
returns-in-10 c = rw c.in-10.is c.adsc_start_rejected.ensures

pub returns-in-11 : goal.returns-in-11
unfolding plain_call
returns-in-11 c = rw c.in-11.is c.adsc_end_confirm.ensures

pub returns-in-12 : goal.returns-in-12
unfolding plain_call
returns-in-12 c = rw c.in-12.is c.adsc_peer_abort.ensures

pub returns-in_default : goal.returns-in_default
unfolding plain_call
returns-in_default c = simp (ne_eqb _ 9 c.in_default.in_default-own.rest.0.0.0.1, ne_eqb _ 10 c.in_default.in_default-own.rest.0.0.1, ne_eqb _ 11 c.in_default.in_default-own.rest.0.1, ne_eqb _ 12 c.in_default.in_default-own.rest.1) c.adsc_down.ensures
