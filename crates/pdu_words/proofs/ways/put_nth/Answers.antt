use Rattle.text.proofs.Pages.{after}
use borrow.Author.Tests.{eq-eqb, ne_eqb}
use Rattle.pdu_words.specs.Ways.{nth_text}
use Rattle.pdu_words.proofs.ways.put_nth.Goals as goal

pub returns-then-n-eq1 : goal.returns-then-n-eq1
unfolding nth_text
returns-then-n-eq1 c = rw (eq-eqb _ 1 c.if-n-eq1.true) c.put_text.ensures

pub returns : goal.returns
unfolding nth_text
returns c = rw (ne_eqb _ 1 c.if-n-eq1.false, ← c.ending_of.ensures) (after c.put_text-a.ensures (after c.put_decimal-a.ensures (after c.put_word-a.ensures c.put_text-2.ensures)))
