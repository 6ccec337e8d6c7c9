use borrow.Author.Tests.{ne_eqb}
use Rattle.pdu_words.specs.LineText.{pdu_text, family_of}
use Rattle.pdu_words.proofs.line.say_pdu.Goals as goal

pub returns-in-1 : goal.returns-in-1
unfolding pdu_text family_of
returns-in-1 c = rw (← c.find.ensures, c.in-1.is) c.say_air.ensures

pub returns-in-2 : goal.returns-in-2
unfolding pdu_text family_of
returns-in-2 c = rw (← c.find.ensures, c.in-2.is) c.say_ground.ensures

pub returns-in_default : goal.returns-in_default
unfolding pdu_text family_of
returns-in_default c = rw (← c.find.ensures, ne_eqb _ 1 c.in_default.in_default-own.rest.0.1, ne_eqb _ 2 c.in_default.in_default-own.rest.1) c.say_refused.ensures
