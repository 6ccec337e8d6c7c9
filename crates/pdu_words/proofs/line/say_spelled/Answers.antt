use mathlib.Core.Path.{refl}
use Rattle.text.proofs.Laws.{take_min}
use Rattle.pdu_words.specs.LineText.{heard_text}
use Rattle.pdu_words.proofs.Spelled.{spelled-heard}
use Rattle.pdu_words.proofs.line.say_spelled.Goals as goal

pub returns-in-Ok : goal.returns-in-Ok
unfolding heard_text
returns-in-Ok c = let s = c.args in
    rw (← spelled-heard s.task s.word.now c.in-Ok.ensures c.requires refl) (rw (c.shown-m.ensures.is, take_min _ _) at c.say_pdu.ensures)

pub returns-in-Err : goal.returns-in-Err
unfolding heard_text
returns-in-Err c = let s = c.args in
    rw (← spelled-heard s.task s.word.now c.in-Err.ensures c.requires refl) c.say_refused.ensures
