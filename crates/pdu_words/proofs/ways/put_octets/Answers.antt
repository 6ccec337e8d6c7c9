use Rattle.pdu_words.specs.Ways.{octets_text}
use Rattle.pdu_words.proofs.ways.put_octets.Goals as goal

pub returns : goal.returns
unfolding octets_text
returns c = c.put_hex.ensures
