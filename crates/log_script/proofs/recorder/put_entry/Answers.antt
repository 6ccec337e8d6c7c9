use Rattle.log_script.proofs.Notes.{data-whole}
use Rattle.log_script.proofs.recorder.put_entry.Goals as goal

pub returns : goal.returns
returns c = let a = c.args in rw (data-whole a.k a.octets.now _ c.least-n.ensures.is) at c.append.ensures
