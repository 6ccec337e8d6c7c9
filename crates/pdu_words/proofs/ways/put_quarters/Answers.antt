use Rattle.text.proofs.Pages.{after}
use Rattle.pdu_words.specs.Ways.{quarters_text}
use Rattle.pdu_words.proofs.ways.put_quarters.Goals as goal

pub returns : goal.returns
unfolding quarters_text
returns c = rw (← c.size_of-size.ensures) (after c.put_sign-a.ensures (after c.put_decimal-a.ensures c.put_word.ensures))
