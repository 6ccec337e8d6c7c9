use Rattle.pdu_words.specs.LineText.{answer_text}
use Rattle.text.proofs.Pages.{after}
use Rattle.text.proofs.Laws.{take_min}
use Rattle.pdu_words.proofs.lines.put_answer.Goals as goal

pub returns : goal.returns
unfolding answer_text
returns c = after (rw (c.shown-n.ensures.is, take_min _ _) at c.say_line-a.ensures) c.put_byte.ensures
