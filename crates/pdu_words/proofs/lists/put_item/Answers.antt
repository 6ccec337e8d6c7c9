use Rattle.text.proofs.Pages.{after}
use borrow.Author.Tests.{eq-eqb, ne_eqb}
use Rattle.pdu_words.specs.Ways.{entry_item}
use Rattle.pdu_words.specs.CodeRows.{item_of}
use Rattle.pdu_words.proofs.lists.put_item.Goals as goal

pub returns-then-list-eq0 : goal.returns-then-list-eq0
unfolding item_of
returns-then-list-eq0 c = rw (eq-eqb _ 0 c.if-list-eq0.true) c.put_name_item.ensures

pub returns : goal.returns
unfolding item_of entry_item
returns c = rw (ne_eqb _ 0 c.if-list-eq0.false) (after c.put_mark-a.ensures c.put_listed.ensures)
