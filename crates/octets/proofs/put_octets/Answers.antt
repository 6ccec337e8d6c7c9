use mathlib.Core.Path.{refl, sym, ◌∙◌}
use native.Mathlib.Omega.{arith}
use Rattle.octets.proofs.Words.{sets-out, put-start, put_step, put-end}
use Rattle.octets.proofs.put_octets.Goals as goal

pub returns-then-out-at : goal.returns-then-out-at
returns-then-out-at c = let a = c.args in
    sym (sets-out a.s.now a.out.now a.at (omega arith))

pub loop-i-init : goal.loop-i-init
loop-i-init c = let a = c.args in
    (refl, put-start a.s.now a.out.now a.at)

pub loop-i-preserved : goal.loop-i-preserved
loop-i-preserved c = let p = c.put_octet in
    let a = c.args in (
      p.auto.out ∙ c.loop-i.invariant.0,
      rw p.ensures (put_step a.s.now c.loop-i.out a.at c.loop-i.i (omega arith)) ∙ c.loop-i.invariant.1,
    )

pub returns : goal.returns
returns c = let a = c.args in
    put-end a.s.now c.loop-i.out a.at c.loop-i.i (omega arith) ∙ c.loop-i.invariant.1
