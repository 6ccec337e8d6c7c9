use Rattle.text.proofs.Pages.{after}
use borrow.Author.Tests.{eq-eqb, ne_eqb}
use Rattle.pdu_words.specs.Ways.{name_item}
use Rattle.pdu_words.proofs.lists.put_name_item.Goals as goal

pub returns-then-i-eq0 : goal.returns-then-i-eq0
unfolding name_item
returns-then-i-eq0 c = rw (eq-eqb _ 0 c.if-i-eq0.true) (after c.put_mark-a.ensures c.put_letter.ensures)

pub returns : goal.returns
unfolding name_item
returns c = rw (ne_eqb _ 0 c.if-i-eq0.false) c.put_letter-2.ensures
