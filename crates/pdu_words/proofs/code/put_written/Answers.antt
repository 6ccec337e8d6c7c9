use Rattle.text.proofs.Pages.{after}
use Rattle.text.proofs.Laws.{take_min}
use Rattle.pdu_words.specs.LineText.{written_text}
use Rattle.pdu_words.proofs.code.put_written.Goals as goal

pub returns-in-Ok : goal.returns-in-Ok
unfolding written_text
returns-in-Ok c = rw c.in-Ok.is (after c.put_text-a.ensures (rw (c.shown-m.ensures.is, take_min _ _) at c.put_hex.ensures))

pub returns-in-Err : goal.returns-in-Err
unfolding written_text
returns-in-Err c = rw c.in-Err.is (rw c.number.ensures.is at c.put_refused.ensures)
