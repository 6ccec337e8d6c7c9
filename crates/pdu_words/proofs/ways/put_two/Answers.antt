use Rattle.text.proofs.Pages.{after}
use Rattle.pdu_words.specs.Ways.{two_digits}
use Rattle.pdu_words.proofs.ways.put_two.Goals as goal

pub returns : goal.returns
unfolding two_digits
returns c = after c.put_byte-a.ensures c.put_byte.ensures
