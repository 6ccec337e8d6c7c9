use Rattle.pdu_words.specs.LineText.{air_read}
use Rattle.pdu_words.proofs.line.say_air.Goals as goal

pub returns-in-Ok : goal.returns-in-Ok
unfolding air_read
returns-in-Ok c = rw (← c.in-Ok.ensures) c.put_air.ensures

pub returns-in-Err : goal.returns-in-Err
unfolding air_read
returns-in-Err c = rw (← c.in-Err.ensures) (rw c.number.ensures.is at c.say_refused.ensures)
