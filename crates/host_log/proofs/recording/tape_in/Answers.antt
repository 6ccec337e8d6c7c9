use Rattle.host_log.proofs.recording.tape_in.Goals as goal

pub returns : goal.returns
returns c = rw (c.read_word-number.ensures, c.read_pair-used.ensures)
