use Rattle.link.proofs.executor.Step.stop_then.Goals as goal

pub returns : goal.returns
returns c = rw (c.add.ensures, c.stop_all.ensures)
