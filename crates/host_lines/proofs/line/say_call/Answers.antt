use Rattle.host_lines.proofs.line.say_call.Goals as goal

pub returns : goal.returns
returns c = let d = c.call-c.ensures in
    rw (← d.number_is, ← d.length_is, ← d.link_is, ← d.out_is) c.put_told.ensures
