use borrow.Author.Tests.{eq-eqb, ne_eqb}
use Rattle.pdu_words.specs.CodeRows.{octets_in}
use Rattle.pdu_words.proofs.lists.octets_in.Goals as goal

pub returns-then-list-eq0 : goal.returns-then-list-eq0
unfolding octets_in
returns-then-list-eq0 c = rw (eq-eqb _ 0 c.if-list-eq0.true)

pub returns-else-list-eq0 : goal.returns-else-list-eq0
unfolding octets_in
returns-else-list-eq0 c = rw (ne_eqb _ 0 c.if-list-eq0.false)
