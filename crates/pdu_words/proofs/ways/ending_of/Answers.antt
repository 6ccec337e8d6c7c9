use borrow.Author.Tests.{eq-eqb, ne_eqb, lt-ltb, le-ltb}
use Rattle.pdu_words.specs.Ways.{ending}
use Rattle.pdu_words.proofs.ways.ending_of.Goals as goal

pub returns-then-n-eq1 : goal.returns-then-n-eq1
unfolding ending
returns-then-n-eq1 c = rw (eq-eqb _ 1 c.if-n-eq1.true)

pub returns-then-last-lt4 : goal.returns-then-last-lt4
unfolding ending
returns-then-last-lt4 c = rw (ne_eqb _ 1 c.if-n-eq1.false, lt-ltb _ 4 c.if-last-lt4.true)

pub returns : goal.returns
unfolding ending
returns c = rw (ne_eqb _ 1 c.if-n-eq1.false, le-ltb _ 4 c.if-last-lt4.false)
