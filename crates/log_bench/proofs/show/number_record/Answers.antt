use mathlib.Core.Path.{sym}
use lib.Seq.{length-take-le}
use Rattle.log_blocks.specs.Record.{rec}
use Rattle.log_bench.proofs.Showing.{record-adds}
use Rattle.log_bench.proofs.show.number_record.Goals as goal

pub slice_bounds-put_answer-end : goal.slice_bounds-put_answer-end
slice_bounds-put_answer-end c = sym (length-take-le _ _ c.least-n.ensures.within)

pub returns : goal.returns
returns c = let a = c.args in
    record-adds a.t.setup (rec a.kind a.seconds a.octets.now) c.play_record-s.result _ _ _ c.play_record-s.ensures c.least-n.ensures.is
    c.bump-number.ensures c.requires c.put_decimal-a.ensures c.put_byte-b.ensures c.put_answer-e.ensures c.put_byte-at.ensures
