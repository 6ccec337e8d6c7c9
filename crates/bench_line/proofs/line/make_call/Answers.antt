use Rattle.script.specs.Fields.{held_in}
use Rattle.script.specs.Lines.{call_of}
use Rattle.bench_line.specs.Lines.{parsed_in}
use Rattle.bench_line.proofs.line.make_call.Goals as goal

pub returns-in-Octets : goal.returns-in-Octets
unfolding held_in call_of
returns-in-Octets c = rw c.in-Octets.is c.octets_call.ensures

pub returns-in-Number : goal.returns-in-Number
unfolding held_in call_of
returns-in-Number c = rw c.in-Number.is (c.number_call.ensures _)

pub returns-in-Unread : goal.returns-in-Unread
unfolding held_in call_of parsed_in
returns-in-Unread c = rw c.in-Unread.is
