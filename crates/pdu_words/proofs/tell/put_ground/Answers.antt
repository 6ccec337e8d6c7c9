use Rattle.pdu_words.proofs.tell.put_ground.Goals as goal

pub returns : goal.returns
returns c = rw (← c.flat_ground-f.ensures) c.put_ground.ensures
