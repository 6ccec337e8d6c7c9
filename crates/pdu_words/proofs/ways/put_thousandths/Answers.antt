use Rattle.text.proofs.Pages.{after}
use Rattle.pdu_words.specs.Ways.{thousandths_text}
use Rattle.pdu_words.proofs.ways.put_thousandths.Goals as goal

pub returns : goal.returns
unfolding thousandths_text
returns c = after c.put_decimal-a.ensures c.put_thousandth.ensures
