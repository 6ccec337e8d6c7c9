use Rattle.flight_bench.specs.Endings.{states_text}
use Rattle.text.proofs.Pages.{after}
use Rattle.flight_bench.proofs.ending.put_states.Goals as goal

pub returns : goal.returns
unfolding states_text
returns c = rw (← c.count.ensures) (after c.put_ground-a.ensures (after c.put_air-b.ensures (after c.put_text-c.ensures (after c.put_decimal-d.ensures c.put_byte.ensures))))
