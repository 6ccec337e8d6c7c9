use Rattle.text.proofs.Pages.{after}
use Rattle.script.specs.Trace.{numbered}
use Rattle.script.proofs.Steps.{numbered-length}
use Rattle.bench.specs.Replies.{ground_bench}
use Rattle.bench.proofs.trace.number_line.Goals as goal

pub returns : goal.returns
unfolding numbered
returns c = let n = c.bump-number.ensures in
    let a = c.answer_line-r.ensures in
    record {
      number_is = n;
      box_is = a.box_is;
      text_is = rw (← n) (after c.put_decimal-a.ensures (after c.put_byte-b.ensures (after a.text_is c.put_byte-at.ensures)));
      short = numbered-length ground_bench _ _ _ a.short;
    }
