use mathlib.Core.Path.{sym}
use lib.ListN.{get_or-eq_default}
use Rattle.script.proofs.line.shape_at.Goals as goal

pub returns : goal.returns
returns c = sym (get_or-eq_default c.args.shapes.now 0 c.if-w-shapes.false)
