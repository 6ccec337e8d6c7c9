use mathlib.Core.Path.{◌≡◌, refl}
use Prim.Native.Nat.{◌+◌, ◌-◌}
use native.Mathlib.Omega.{arith}
use Rattle.octets.proofs.Words.{sets-part}
use Rattle.octets.specs.Octets.{quad}
use Rattle.octets.proofs.put_word.Goals as goal

pub returns-then-out-at-ge4 : goal.returns-then-out-at-ge4
returns-then-out-at-ge4 c = let k : c.args.at + 4 - c.args.at ≡ 4 = omega arith in
    rw (k, c.copy_from_slice.ensures.after, c.octets_of.ensures) (sets-part (quad c.args.w) _ _ 4 refl (omega arith))
