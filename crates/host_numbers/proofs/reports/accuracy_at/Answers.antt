use borrow.Author.Tests.{lt-ltb, le-ltb}
use Rattle.host_numbers.specs.ReportNumbers.{accuracy_at}
use Rattle.host_numbers.proofs.reports.accuracy_at.Goals as goal

pub returns-then-number-lt2 : goal.returns-then-number-lt2
unfolding accuracy_at
returns-then-number-lt2 c = rw (← c.number.ensures, lt-ltb _ 2 c.if-number-lt2.true) c.number_by-v.ensures

pub returns-else-number-lt2 : goal.returns-else-number-lt2
unfolding accuracy_at
returns-else-number-lt2 c = rw (← c.number.ensures, le-ltb _ 2 c.if-number-lt2.false)
