use mathlib.Core.Path.{◌∙◌}
use Rattle.adschost.proofs.Ways.{few-numbers, short-list, air-there, air-refused}
use Rattle.adschost.proofs.messages.adsc_read_air.Goals as goal

pub returns-then-numbers-lt-A_NUMBERS : goal.returns-then-numbers-lt-A_NUMBERS
returns-then-numbers-lt-A_NUMBERS c = rw c.number.ensures.is (few-numbers _ c.args.numbers.now c.args.list.now c.in-Ok.pdu c.in-Ok.ensures c.if-numbers-lt-A_NUMBERS.true)

pub returns-then-list-lt128 : goal.returns-then-list-lt128
returns-then-list-lt128 c = rw c.number-then-list-lt128.ensures.is (short-list _ c.args.numbers.now c.args.list.now c.in-Ok.pdu c.in-Ok.ensures c.if-numbers-lt-A_NUMBERS.false c.if-list-lt128.true)

pub returns-else-list-lt128 : goal.returns-else-list-lt128
returns-else-list-lt128 c = air-there _ c.args.numbers.now c.args.list.now c.in-Ok.pdu c.in-Ok.ensures c.if-numbers-lt-A_NUMBERS.false c.if-list-lt128.false _ _ (c.copy_into.ensures ∙ rw c.flat_air.ensures) c.put_items.ensures

pub returns-in-Err : goal.returns-in-Err
returns-in-Err c = rw c.number-in-Err.ensures.is (air-refused _ c.args.numbers.now c.args.list.now _ c.in-Err.ensures)
