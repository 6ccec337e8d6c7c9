use Rattle.link.proofs.acts.Acts.push_when.Goals as goal

pub returns-then-yes : goal.returns-then-yes
returns-then-yes c = rw c.if-yes.true c.push.ensures
