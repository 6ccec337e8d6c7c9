use Prim.Native.Nat.{◌*◌}
use mathlib.Core.Path.{◌≡◌}
use native.Mathlib.Nat.{add-mul}
use native.Mathlib.Omega.{arith}
use Rattle.per.proofs.Peels.{was_free, run-under}
use Rattle.pdu_parts.proofs.ListLaws.{filled_none, filled-four}
use Rattle.pdu_parts.proofs.lists.read_halves.Goals as goal

pub loop-i-init : goal.loop-i-init
loop-i-init c = λ z. filled_none _ _ _

pub overflow_cast-items : goal.overflow_cast-items
overflow_cast-items c = omega (arith, run-under 28 (omega arith) c.take-t.ensures)

pub loop-i-preserved : goal.loop-i-preserved
loop-i-preserved c = let l = c.loop-i in
    let r = c.take-t.ensures in
    λ z. rw (add-mul l.i 1 4) (filled-four (l.i * 4) (omega arith) (l.invariant (was_free r z)) r z)

pub returns : goal.returns
returns c = let e : c.loop-i.i ≡ c.args.n = omega arith in rw (← e) c.loop-i.invariant
