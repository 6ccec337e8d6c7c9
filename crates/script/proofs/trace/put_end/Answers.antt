use Rattle.text.proofs.Pages.{after}
use Rattle.script.specs.Trace.{end_text}
use Rattle.script.proofs.trace.put_end.Goals as goal

pub returns : goal.returns
unfolding end_text
returns c = after c.put_text-a.ensures (after c.put_decimal-b.ensures c.put_byte.ensures)
