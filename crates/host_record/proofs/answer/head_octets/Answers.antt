use mathlib.Core.Path.{◌≡◌}
use lib.ListN.{length}
use Rattle.std.proofs.Common.{rules}
use Rattle.host_record.proofs.Puts.{elements}
use Rattle.host_record.proofs.answer.head_octets.Goals as goal

pub returns : goal.returns
returns c = let a : length c.args.s.acts.list ≡ 8 = search rules in
    rw (c.copy_from_slice.ensures.after, c.copy_from_slice-2.ensures.after, c.octets_of.ensures, c.count.ensures, c.count-2.ensures, ← elements c.args.s.acts.list 8 a)
