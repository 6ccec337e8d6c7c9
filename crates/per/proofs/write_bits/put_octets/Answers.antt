use mathlib.Core.Path.{refl}
use native.Mathlib.Omega.{arith}
use Rattle.per.proofs.Puts.{put-none, put_two, shift-less}
use Rattle.per.proofs.write_bits.put_octets.Goals as goal

pub loop-left-init : goal.loop-left-init
loop-left-init c = (omega arith, omega arith, put-none _ _ _ _ (omega arith))

pub loop-left-preserved : goal.loop-left-preserved
loop-left-preserved c = (omega arith, omega arith, put_two _ _ _ _ _ _ _ _ _ _ c.loop-left.invariant.2 c.put_in.ensures (shift-less _ _ 8 (omega arith)) (omega arith) (omega arith))

pub returns : goal.returns
returns c = put_two _ _ _ _ _ _ _ _ _ _ c.loop-left.invariant.2 c.put_in-2.ensures refl (omega arith) (omega arith)
