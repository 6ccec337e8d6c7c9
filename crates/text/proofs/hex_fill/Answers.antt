use native.Mathlib.Omega.{arith}
use lib.ListN.{length-set}
use Prim.Native.Nat.{◌*◌, ◌+◌}
use Rattle.text.proofs.Laws.{hex-even, hex-two, fill_step, fill_end}
use mathlib.Core.Path.{◌≡◌, refl, sym, ◌∙◌}
use Rattle.text.proofs.hex_fill.Goals as goal

pub loop-i-init : goal.loop-i-init
loop-i-init c = (refl, refl, (hex-even c.args.s.now c.requires.0).0)

pub pair-requires : goal.pair-requires
pair-requires c = let t = hex-two c.args.s.now (2 * c.loop-i.i) (omega arith) c.loop-i.invariant.2 in
    (t.0, t.1)

pub loop-i-preserved : goal.loop-i-preserved
loop-i-preserved c = let s = c.args.s.now in
    let i = c.loop-i.i in
    let t = hex-two s (2 * i) (omega arith) c.loop-i.invariant.2 in
    let e : 2 * (i + 1) ≡ 2 * i + 2 = omega arith in
    (simp length-set c.loop-i.invariant.0, rw (c.pair.ensures, e) (fill_step s c.loop-i.out i (2 * i) (omega arith) ∙ c.loop-i.invariant.1), rw e t.2)

pub returns : goal.returns
returns c = let s = c.args.s.now in
    let e = hex-even s c.requires.0 in
    sym (fill_end s c.loop-i.out c.loop-i.i _ (omega (arith, e.1))) ∙ c.loop-i.invariant.1
