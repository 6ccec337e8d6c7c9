use Rattle.text.proofs.Laws.{put_full}
use mathlib.Core.Path.{sym}
use Rattle.text.specs.Page.{put}
use borrow.Author.Tests.{lt-ltb}
use Rattle.text.proofs.put_byte.Goals as goal

pub returns-then-at-out : goal.returns-then-at-out
unfolding put
returns-then-at-out c = record { is = rw (lt-ltb _ _ c.if-at-out.true) }

pub returns : goal.returns
returns c = record { is = sym (put_full _ _ _ c.if-at-out.false) }
