use mathlib.Core.Path.{refl}
use borrow.Author.Tests.{eq-eqb, ne_eqb}
use Rattle.text.proofs.Pages.{after}
use Rattle.log_bench.specs.Logs.{last_line}
use Rattle.log_bench.proofs.player.close_log.Goals as goal

pub returns-then-failed : goal.returns-then-failed
returns-then-failed c = λ b. record { failed_is = refl; text_is = rw c.if-failed.true (record { is = refl }) }

pub returns-then-refusal-eq0 : goal.returns-then-refusal-eq0
unfolding last_line
returns-then-refusal-eq0 c = λ b. record {
  failed_is = rw c.if-failed.false c.close.ensures.failed_is;
  text_is = rw (c.if-failed.false, eq-eqb _ 0 c.if-refusal-eq0.true) c.close.ensures.text_is;
}

pub returns : goal.returns
unfolding last_line
returns c = λ b. record {
  failed_is = refl;
  text_is = rw (c.if-failed.false, ne_eqb _ 0 c.if-refusal-eq0.false) (after c.put_refused-a.ensures (after c.put_text-b.ensures (after c.put_decimal-c.ensures c.put_byte-e.ensures)));
}
