use Rattle.host_numbers.proofs.downlink.negative_at.Goals as goal

pub returns : goal.returns
returns c = rw (c.number.ensures, c.number-2.ensures)
