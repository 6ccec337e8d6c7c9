use mathlib.Core.Path.{◌∙◌}
use lib.ListN.{take, drop_of_length-le}
use Rattle.pdu_words.specs.CodeRows.{item_of, octets_in}
use Rattle.pdu_words.proofs.Loops.{take-least, item_step, entries-are}
use Rattle.pdu_words.proofs.lists.put_list.Goals as goal

pub loop-i-init : goal.loop-i-init
loop-i-init c = let s = c.args in
    rw (take-least s.items.now (octets_in s.list s.count) c.min-n.result (c.min-n.ensures ∙ rw c.octets_in.ensures), entries-are s.list s.count s.items.now)

pub loop-i-preserved : goal.loop-i-preserved
loop-i-preserved c = item_step (item_of c.args.list) (take c.min-n.result c.args.items.now) c.loop-i.i c.loop-i-test.true c.put_item-a.ensures ∙ c.loop-i.invariant

pub returns : goal.returns
returns c = let e = drop_of_length-le (take c.min-n.result c.args.items.now) c.loop-i-test.false in
    record { is = rw e at c.loop-i.invariant }
