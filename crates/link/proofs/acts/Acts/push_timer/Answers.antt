use borrow.Author.Tests.{lt-ltb, le-ltb}
use Rattle.link.specs.Names.{timers}
use Rattle.link.proofs.acts.Acts.push_timer.Goals as goal

pub returns-then-t-lt-NO_TIMER : goal.returns-then-t-lt-NO_TIMER
returns-then-t-lt-NO_TIMER c = rw (lt-ltb _ timers c.if-t-lt-NO_TIMER.true) c.push.ensures

pub returns-else-t-lt-NO_TIMER : goal.returns-else-t-lt-NO_TIMER
returns-else-t-lt-NO_TIMER c = simp (le-ltb _ timers c.if-t-lt-NO_TIMER.false)
