use Rattle.pdu_words.specs.LineText.{ground_text}
use Rattle.pdu_words.proofs.line.put_ground.Goals as goal

pub returns-in-Code : goal.returns-in-Code
unfolding ground_text
returns-in-Code c = rw c.in-Code.is c.put_ground.ensures

pub returns-in-Tell : goal.returns-in-Tell
unfolding ground_text
returns-in-Tell c = rw c.in-Tell.is c.put_ground-in-Tell.ensures
