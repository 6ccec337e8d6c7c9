use borrow.Author.Tests.{lt-ltb, le-ltb}
use mathlib.Core.Path.{refl, sym}
use lib.ListN.{length}
use lib.Seq.{length-take-le}
use Rattle.text.proofs.Laws.{part-all}
use Rattle.pdu_words.specs.LineText.{line_text}
use Rattle.pdu_words.proofs.line.say_line.Goals as goal

pub returns-then-line-gt4096 : goal.returns-then-line-gt4096
unfolding line_text
returns-then-line-gt4096 c = rw (lt-ltb _ _ c.if-line-gt4096.true) c.say_refused.ensures

pub slice_bounds-say_tail-end : goal.slice_bounds-say_tail-end
slice_bounds-say_tail-end c = sym (length-take-le _ _ c.word_end-e.ensures.within)

pub returns : goal.returns
unfolding line_text
returns c = let l = c.args.line.now in
    rw (le-ltb _ _ c.if-line-gt4096.false, ← c.word_end-e.ensures.is, ← part-all l c.word_end-e.result (length l) refl) c.say_tail.ensures
