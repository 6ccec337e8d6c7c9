use borrow.Author.Tests.{lt-ltb, le-ltb}
use Rattle.host_numbers.specs.Numbers.{number_by}
use Rattle.host_numbers.proofs.numbers.number_by.Goals as goal

pub returns-then-number-lt2 : goal.returns-then-number-lt2
unfolding number_by
returns-then-number-lt2 c = rw (← c.number.ensures, lt-ltb _ 2 c.if-number-lt2.true) c.number-v.ensures

pub returns-else-number-lt2 : goal.returns-else-number-lt2
unfolding number_by
returns-else-number-lt2 c = rw (← c.number.ensures, le-ltb _ 2 c.if-number-lt2.false)
