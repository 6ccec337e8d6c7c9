use Rattle.text.proofs.Pages.{after}
use Rattle.pdu_words.specs.Ways.{three_digits}
use Rattle.pdu_words.proofs.ways.put_three.Goals as goal

pub returns : goal.returns
unfolding three_digits
returns c = after c.put_byte-a.ensures c.put_two.ensures
