use borrow.Author.Tests.{eq-eqb, ne_eqb}
use mathlib.Core.Path.{refl}
use Rattle.bench.specs.Replies.{open_reply, listed_reply, settings_reply}
use lib.Dec.{lit≤}
use Rattle.bench.proofs.reply.set_line.Goals as goal

pub returns-in_default : goal.returns-in_default
unfolding settings_reply listed_reply
returns-in_default c = rw (← c.parse_settings.ensures, c.in_default.is) c.refuse_line.ensures

pub returns-then-refusal-ne0 : goal.returns-then-refusal-ne0
unfolding settings_reply listed_reply open_reply
returns-then-refusal-ne0 c = rw (← c.in-Some.ensures, ← c.open-o.ensures, ne_eqb _ 0 c.if-refusal-ne0.true) c.refuse_line-then-refusal-ne0.ensures

pub returns : goal.returns
unfolding settings_reply listed_reply open_reply
returns c = rw (← c.in-Some.ensures, ← c.open-o.ensures, eq-eqb _ 0 c.if-refusal-ne0.false) (record { box_is = refl; text_is = c.put_text-a.ensures; short = lit≤ tt })
