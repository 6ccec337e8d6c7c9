use Rattle.link.proofs.executor.Step.abort_all.Goals as goal

pub returns : goal.returns
returns c = rw (c.add.ensures, c.stop_then.ensures)
