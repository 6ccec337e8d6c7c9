use Rattle.pdu_words.specs.LineText.{air_text}
use Rattle.pdu_words.proofs.line.put_air.Goals as goal

pub returns-in-Code : goal.returns-in-Code
unfolding air_text
returns-in-Code c = rw c.in-Code.is c.put_air.ensures

pub returns-in-Tell : goal.returns-in-Tell
unfolding air_text
returns-in-Tell c = rw c.in-Tell.is c.put_air-in-Tell.ensures
