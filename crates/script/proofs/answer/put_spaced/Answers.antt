use Rattle.text.proofs.Pages.{after}
use Rattle.script.proofs.Texts.{spaced-none, spaced-some}
use Rattle.script.proofs.answer.put_spaced.Goals as goal

pub returns-then-s-eq0 : goal.returns-then-s-eq0
returns-then-s-eq0 c = spaced-none c.args.s.now c.if-s-eq0.true

pub returns : goal.returns
returns c = spaced-some c.args.s.now c.if-s-eq0.false (after c.put_byte-a.ensures c.put_hex.ensures)
