use Rattle.pdu_words.specs.Names.{refusal_words}
use Rattle.pdu_words.proofs.words.put_refusal.Goals as goal

pub returns : goal.returns
unfolding refusal_words
returns c = c.put_word.ensures
