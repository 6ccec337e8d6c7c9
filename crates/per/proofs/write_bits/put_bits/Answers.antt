use mathlib.Core.Path.{refl}
use native.Mathlib.Nat.{div-add-mod'}
use native.Mathlib.Omega.{arith}
use Rattle.per.proofs.Puts.{put-past, put_two}
use Rattle.per.proofs.write_bits.put_bits.Goals as goal

pub returns-then-at-ge1024 : goal.returns-then-at-ge1024
returns-then-at-ge1024 c = put-past _ _ _ c.if-at-ge1024.true

pub returns-then-t-le8 : goal.returns-then-t-le8
returns-then-t-le8 c = rw div-add-mod' at c.put_in.ensures

pub returns : goal.returns
returns c = put_two _ _ _ _ _ _ _ _ _ _ (rw div-add-mod' at c.put_in-2.ensures) c.put_octets.ensures refl (omega arith) (omega arith)
