use Rattle.text.proofs.Pages.{after}
use Rattle.pdu_words.specs.Ways.{tenths_text}
use Rattle.pdu_words.proofs.ways.put_tenths.Goals as goal

pub returns : goal.returns
unfolding tenths_text
returns c = after c.put_decimal-a.ensures c.put_tenth.ensures
