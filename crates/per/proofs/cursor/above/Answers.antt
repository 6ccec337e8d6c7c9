use mathlib.Core.Path.{◌∙◌}
use borrow.Author.Tests.{lt-ltb}
use Rattle.per.proofs.Leaf.{above-empty, above-is}
use Rattle.per.proofs.cursor.above.Goals as goal

pub returns-then-hi-lo : goal.returns-then-hi-lo
returns-then-hi-lo c = lt-ltb _ _ c.if-hi-lo.true ∙ above-empty _ _ c.args.v c.if-hi-lo.true

pub returns-else-hi-lo : goal.returns-else-hi-lo
returns-else-hi-lo c = above-is _ _ _ c.if-hi-lo.false
