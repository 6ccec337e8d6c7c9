use Rattle.delivery.specs.Deliveries.{head_text}
use Rattle.text.proofs.Pages.{after}
use Rattle.delivery.proofs.carry.put_head.Goals as goal

pub returns : goal.returns
unfolding head_text
returns c = rw (← c.came.ensures, ← c.word_for.ensures) (after c.put_decimal-a.ensures (after c.put_byte-b.ensures (after c.put_decimal-c.ensures (after c.put_word-d.ensures (after c.put_spaced-e.ensures c.put_byte.ensures)))))
