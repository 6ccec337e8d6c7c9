use Rattle.pdu_parts.specs.Lists.{entry_c}
use Rattle.pdu_parts.specs.ListsInner.{Filled}
use Rattle.pdu_parts.proofs.lists.read_items.Given as goal

abbrev pub invariant-loop-i : goal.invariant-loop-i
invariant-loop-i l = Filled (entry_c l.marked l.top) l.i l.s l.initial.next l.items l.next
