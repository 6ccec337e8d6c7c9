use mathlib.Core.Path.{◌≡◌}
use native.Mathlib.Omega.{arith}
use lib.ListN.{length}
use Rattle.std.proofs.Common.{take_all}
use Rattle.per.proofs.Inks.{inks-nil}
use Rattle.pdu_parts.proofs.ListLaws.{items_more}
use Rattle.pdu_parts.proofs.lists.write_items.Goals as goal

pub loop-v-init : goal.loop-v-init
loop-v-init c = inks-nil _

pub loop-v-preserved : goal.loop-v-preserved
loop-v-preserved c = items_more _ _ _ (omega arith) c.loop-v.invariant c.write_entry-p.ensures

pub returns : goal.returns
returns c = let e : c.loop-v.v-index ≡ length c.args.items.now = omega arith in
    rw (take_all c.loop-v.v-index c.args.items.now (omega arith), e) at c.loop-v.invariant
