use mathlib.Core.Bool.{false}
use native.Mathlib.Nat.{mul_assoc}
use native.Mathlib.Omega.{arith}
use Rattle.per.proofs.Compose.{count_most}
use Rattle.pdu_parts.specs.Lists.{entry_c}
use Rattle.pdu_parts.proofs.ListLaws.{listed-reads}
use Rattle.pdu_parts.proofs.lists.NamesPart.read.Goals as goal

pub overflow_mul-count : goal.overflow_mul-count
overflow_mul-count c = omega (arith, count_most c.count-count.ensures)

pub read_halves-items-requires : goal.read_halves-items-requires
read_halves-items-requires c = omega (arith, count_most c.count-count.ensures)

pub returns : goal.returns
returns c = listed-reads 8 (entry_c false 127) c.count-count.ensures
    (rw (mul_assoc c.count-count.result.value 2 4) at (c.read_halves-items.ensures c.if-next-ne0.false))
