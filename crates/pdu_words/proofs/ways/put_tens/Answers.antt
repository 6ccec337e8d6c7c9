use Rattle.text.proofs.Pages.{after}
use Rattle.pdu_words.specs.Ways.{tens_text}
use Rattle.pdu_words.proofs.ways.put_tens.Goals as goal

pub returns : goal.returns
unfolding tens_text
returns c = rw (← c.size_of.ensures) (after c.put_sign-a.ensures c.put_decimal.ensures)
