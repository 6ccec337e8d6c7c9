use Rattle.per.proofs.pen.Pen.ink.Goals as goal

pub returns : goal.returns
returns c = record { pen_is = rw c.onward_of.ensures; octets_is = c.put_bits.ensures }
