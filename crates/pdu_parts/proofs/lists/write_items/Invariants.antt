use lib.ListN.{take}
use Rattle.per.specs.Formats.{vec}
use Rattle.per.specs.Writing.{Writes}
use Rattle.pdu_parts.specs.Lists.{entry_c}
use Rattle.pdu_parts.proofs.lists.write_items.Given as goal

abbrev pub invariant-loop-v : goal.invariant-loop-v
invariant-loop-v l = Writes (vec (entry_c l.marked l.top) l.v-index) l.initial.out l.initial.p (take l.v-index l.items) l.p l.out
