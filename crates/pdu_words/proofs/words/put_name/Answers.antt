use Rattle.pdu_words.specs.Names.{vocabulary}
use Rattle.pdu_words.proofs.words.put_name.Goals as goal

pub returns : goal.returns
unfolding vocabulary
returns c = c.put_word.ensures
