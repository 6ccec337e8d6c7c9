use mathlib.Core.Path.{◌≡◌}
use Prim.Native.Nat.{◌*◌}
use native.Mathlib.Omega.{arith}
use lib.ListN.{length, take}
use lib.Seq.{length-take-le}
use Rattle.std.proofs.Common.{rules}
use Rattle.pdu_parts.proofs.ListLaws.{few, listed-barred, listed-inks}
use Rattle.pdu_parts.proofs.lists.write_list.Goals as goal

pub returns-then-a-gt16 : goal.returns-then-a-gt16
returns-then-a-gt16 c = listed-barred _ _ c.if-a-gt16.true c.count-p.ensures

pub overflow_mul-a : goal.overflow_mul-a
overflow_mul-a c = omega (arith, few c.args.a.count c.args.m (omega arith) (omega arith))

pub shared_ref_as_front-write_items : goal.shared_ref_as_front-write_items
shared_ref_as_front-write_items c = few c.args.a.count c.args.m (omega arith) (omega arith)

pub returns : goal.returns
returns c = let size : length c.args.a.items ≡ 128 = search rules in
    let k = few c.args.a.count c.args.m (omega arith) (omega arith) in
    let n : length (take (c.args.a.count * c.args.m) c.args.a.items) ≡ c.args.a.count * c.args.m = length-take-le _ c.args.a.items (omega (arith, size, k)) in
    listed-inks _ _ c.count-p.ensures (rw n at c.write_items.ensures)
