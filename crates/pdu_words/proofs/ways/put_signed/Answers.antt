use Rattle.text.proofs.Pages.{after}
use Rattle.pdu_words.specs.Ways.{signed_text}
use Rattle.pdu_words.proofs.ways.put_signed.Goals as goal

pub returns : goal.returns
unfolding signed_text
returns c = rw (← c.size_of.ensures) (after c.put_sign-a.ensures c.put_decimal.ensures)
