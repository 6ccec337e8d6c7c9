use Rattle.flight_bench.specs.Endings.{states_of}
use Rattle.text.proofs.Pages.{after}
use Rattle.flight_bench.proofs.ending.put_modules.Goals as goal

pub returns : goal.returns
unfolding states_of
returns c = rw (← c.place-li.ensures, ← c.place-dc.ensures, ← c.place-ec.ensures, ← c.place-pc.ensures, ← c.place-em.ensures)
    (after c.put_word-a.ensures (after c.put_word-b.ensures (after c.put_word-c.ensures (after c.put_word-d.ensures (after c.put_word-e.ensures c.put_byte.ensures)))))
