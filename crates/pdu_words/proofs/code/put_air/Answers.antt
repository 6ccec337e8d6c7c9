use Rattle.pdu_words.specs.LineText.{coded_text}
use Rattle.pdu_words.proofs.code.put_air.Goals as goal

pub returns : goal.returns
unfolding coded_text
returns c = rw (← c.encode_air-w.ensures.answer_is, ← c.encode_air-w.ensures.octets_are) c.put_written.ensures
