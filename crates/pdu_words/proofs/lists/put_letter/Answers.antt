use Rattle.text.proofs.Pages.{after}
use Rattle.pdu_words.specs.Ways.{letter}
use Rattle.pdu_words.proofs.lists.put_letter.Goals as goal

pub returns-then-is_plain : goal.returns-then-is_plain
unfolding letter
returns-then-is_plain c = rw (← c.is_plain.ensures, c.if-is_plain.true) c.put_byte.ensures

pub returns : goal.returns
unfolding letter
returns c = rw (← c.is_plain.ensures, c.if-is_plain.false) (after c.put_text-a.ensures c.put_octet.ensures)
