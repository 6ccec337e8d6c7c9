use native.Mathlib.Omega.{arith}
use Rattle.per.proofs.Compose.{count_most}
use Rattle.pdu_parts.proofs.ListLaws.{few, listed-reads}
use Rattle.pdu_parts.proofs.lists.read_list.Goals as goal

pub overflow_mul-count : goal.overflow_mul-count
overflow_mul-count c = omega (arith, few c.count-count.result.value c.args.m (count_most c.count-count.ensures) (omega arith))

pub read_items-items-requires : goal.read_items-items-requires
read_items-items-requires c = few c.count-count.result.value c.args.m (count_most c.count-count.ensures) (omega arith)

pub returns : goal.returns
returns c = listed-reads _ _ c.count-count.ensures c.read_items-items.ensures
