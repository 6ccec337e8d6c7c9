use borrow.Author.Tests.{eq-eqb, ne_eqb}
use mathlib.Core.Path.{refl}
use lib.ListN.{length}
use Rattle.text.proofs.Laws.{part-all}
use Rattle.pdu_words.specs.LineText.{tail_text}
use Rattle.pdu_words.proofs.line.say_tail.Goals as goal

pub returns-then-tail-eq0 : goal.returns-then-tail-eq0
unfolding tail_text
returns-then-tail-eq0 c = rw (eq-eqb _ 0 c.if-tail-eq0.true) c.say_pdu.ensures

pub returns-then-tail-eq1 : goal.returns-then-tail-eq1
unfolding tail_text
returns-then-tail-eq1 c = rw (ne_eqb _ 0 c.if-tail-eq0.false, eq-eqb _ 1 c.if-tail-eq1.true) c.say_refused.ensures

pub returns : goal.returns
unfolding tail_text
returns c = let l = c.args.tail.now in
    rw (ne_eqb _ 0 c.if-tail-eq0.false, ne_eqb _ 1 c.if-tail-eq1.false, ← part-all l 1 (length l) refl) c.say_spelled.ensures
