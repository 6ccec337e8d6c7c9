use Rattle.host_lines.proofs.fields.unread.Goals as goal

pub returns : goal.returns
returns c = rw c.no_numbers-numbers.ensures
