use Rattle.text.proofs.Pages.{after}
use Rattle.flight_bench.proofs.ending.put_end.Goals as goal

pub returns-then-ready : goal.returns-then-ready
returns-then-ready c = rw c.if-ready.true (after c.put_text-a.ensures c.put_modules.ensures)

pub returns-else-ready : goal.returns-else-ready
returns-else-ready c = rw c.if-ready.false (after c.put_text-a.ensures c.put_text.ensures)
