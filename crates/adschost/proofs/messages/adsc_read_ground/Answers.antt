use mathlib.Core.Path.{◌∙◌}
use Rattle.adschost.proofs.Ways.{few-ground, ground-there, ground-refused}
use Rattle.adschost.proofs.messages.adsc_read_ground.Goals as goal

pub returns-then-numbers-lt-G_NUMBERS : goal.returns-then-numbers-lt-G_NUMBERS
returns-then-numbers-lt-G_NUMBERS c = rw c.number.ensures.is (few-ground _ c.args.numbers.now c.in-Ok.g c.in-Ok.ensures c.if-numbers-lt-G_NUMBERS.true)

pub returns-else-numbers-lt-G_NUMBERS : goal.returns-else-numbers-lt-G_NUMBERS
returns-else-numbers-lt-G_NUMBERS c = ground-there _ c.args.numbers.now c.in-Ok.g c.in-Ok.ensures c.if-numbers-lt-G_NUMBERS.false _ (c.copy_into.ensures ∙ rw c.flat_ground.ensures)

pub returns-in-Err : goal.returns-in-Err
returns-in-Err c = rw c.number-in-Err.ensures.is (ground-refused _ c.args.numbers.now _ c.in-Err.ensures)
