use native.Mathlib.Omega.{arith}
use mathlib.Core.Path.{◌≡◌, refl}
use lib.ListN.{length}
use Rattle.std.proofs.Common.{rules}
use Rattle.octets.proofs.Words.{sets-part}
use Rattle.host_record.specs.AnswerLayout.{sent_octets}
use Rattle.host_record.proofs.Puts.{elements}
use Rattle.host_record.proofs.answer.with_sent.Goals as goal

pub returns : goal.returns
returns c = let f : length c.args.f ≡ 31 = search rules in
    let o : length c.args.o ≡ 17 = search rules in
    rw (c.copy_from_slice.ensures.after, ← elements c.args.o 17 o) (sets-part (sent_octets c.args.o) c.args.f 14 17 refl (omega arith))
