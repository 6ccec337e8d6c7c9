use borrow.Author.Tests.{lt-ltb, le-ltb}
use Rattle.host_lines.specs.Calls.{other_done}
use Rattle.host_lines.proofs.call.other_call.Goals as goal

pub returns-then-w-lt-USER_ABORT : goal.returns-then-w-lt-USER_ABORT
unfolding other_done
returns-then-w-lt-USER_ABORT c = rw (lt-ltb _ _ c.if-w-lt-USER_ABORT.true) c.octets_call.ensures

pub returns : goal.returns
unfolding other_done
returns c = rw (le-ltb _ _ c.if-w-lt-USER_ABORT.false) c.plain_call.ensures
