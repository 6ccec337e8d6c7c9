use mathlib.Core.Path.{◌≡◌}
use lib.ListN.{drop}
use Rattle.text.specs.Page.{page, wrote}
use Rattle.pdu_words.specs.Ways.{items_text, way_text}
use Rattle.pdu_words.specs.CodeRows.{entries_of, item_of}
use Rattle.pdu_words.proofs.lists.put_list.Given as goal

abbrev pub invariant-loop-i : goal.invariant-loop-i
invariant-loop-i l = wrote (page l.out l.a) (items_text (item_of l.list) l.i (drop l.i l.c-items)) ≡ wrote (page l.initial.out l.at) (way_text (entries_of l.list) l.count l.items)
