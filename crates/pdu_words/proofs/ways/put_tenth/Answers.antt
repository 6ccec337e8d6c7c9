use Rattle.text.proofs.Pages.{after}
use Rattle.pdu_words.specs.Ways.{tenth_text}
use Rattle.pdu_words.proofs.ways.put_tenth.Goals as goal

pub returns : goal.returns
unfolding tenth_text
returns c = after c.put_byte-a.ensures c.put_byte.ensures
