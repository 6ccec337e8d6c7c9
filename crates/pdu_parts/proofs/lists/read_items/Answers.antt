use mathlib.Core.Path.{◌≡◌}
use native.Mathlib.Omega.{arith}
use Rattle.pdu_parts.proofs.ListLaws.{filled_none, filled_more}
use Rattle.pdu_parts.proofs.lists.read_items.Goals as goal

pub loop-i-init : goal.loop-i-init
loop-i-init c = filled_none _ _ _

pub read_entry-e-requires : goal.read_entry-e-requires
read_entry-e-requires c = tt

pub overflow_cast-items : goal.overflow_cast-items
overflow_cast-items c = omega (arith, c.read_entry-e.ensures.1)

pub bounds-items-i : goal.bounds-items-i
bounds-items-i c = omega arith

pub loop-i-preserved : goal.loop-i-preserved
loop-i-preserved c = filled_more _ _ (omega arith) c.loop-i.invariant c.read_entry-e.ensures.0

pub returns : goal.returns
returns c = let e : c.loop-i.i ≡ c.args.n = omega arith in rw (← e) c.loop-i.invariant
