use mathlib.Core.Path.{refl}
use borrow.Author.Tests.{eq-eqb, ne_eqb}
use Rattle.text.proofs.Pages.{after}
use Rattle.pdu_words.specs.Ways.{time_text}
use Rattle.pdu_words.proofs.ways.put_time.Goals as goal

pub returns-then-n-eq0 : goal.returns-then-n-eq0
unfolding time_text
returns-then-n-eq0 c = rw (eq-eqb _ 0 c.if-n-eq0.true) (record { is = refl })

pub returns : goal.returns
unfolding time_text
returns c = rw (ne_eqb _ 0 c.if-n-eq0.false) (after c.put_text-a.ensures (after c.put_decimal-a.ensures c.put_text.ensures))
