use native.Mathlib.Omega.{arith}
use mathlib.Core.Path.{◌≡◌, refl}
use lib.ListN.{length}
use Rattle.std.proofs.Common.{rules}
use Rattle.octets.proofs.Words.{sets-part}
use Rattle.host_record.specs.RecordLayout.{five}
use Rattle.host_record.proofs.Puts.{elements}
use Rattle.host_record.proofs.record.put_states.Goals as goal

pub returns : goal.returns
returns c = let s : length c.args.at ≡ 5 = search rules in
    rw (c.copy_from_slice.ensures.after, ← elements c.args.at 5 s) (sets-part (five c.args.at) c.args.out.now 80 5 refl (omega arith))
