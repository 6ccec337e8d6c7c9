use Rattle.text.proofs.Pages.{after}
use Rattle.pdu_words.specs.LineText.{refused_line}
use Rattle.pdu_words.proofs.line.say_refused.Goals as goal

pub returns-in-Code : goal.returns-in-Code
unfolding refused_line
returns-in-Code c = rw c.in-Code.is c.put_refused-a.ensures

pub returns-in-Tell : goal.returns-in-Tell
unfolding refused_line
returns-in-Tell c = rw c.in-Tell.is (after c.put_refused-a.ensures c.put_refusal.ensures)
