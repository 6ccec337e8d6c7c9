use borrow.Author.Tests.{lt-ltb, le-ltb}
use Rattle.pdu_words.specs.Ways.{size_of}
use Rattle.pdu_words.proofs.ways.size_of.Goals as goal

pub returns-then-n-lt2147483648 : goal.returns-then-n-lt2147483648
unfolding size_of
returns-then-n-lt2147483648 c = rw (lt-ltb _ _ c.if-n-lt2147483648.true)

pub returns : goal.returns
unfolding size_of
returns c = rw (le-ltb _ _ c.if-n-lt2147483648.false)
