use borrow.Author.Tests.{eq-eqb, ne_eqb}
use Rattle.pdu_words.specs.Ways.{mark}
use Rattle.pdu_words.proofs.lists.put_mark.Goals as goal

pub returns-then-i-eq0 : goal.returns-then-i-eq0
unfolding mark
returns-then-i-eq0 c = rw (eq-eqb _ 0 c.if-i-eq0.true) c.put_text.ensures

pub returns : goal.returns
unfolding mark
returns c = rw (ne_eqb _ 0 c.if-i-eq0.false) c.put_text-2.ensures
