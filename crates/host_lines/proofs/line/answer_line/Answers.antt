use borrow.Author.Tests.{lt-ltb, le-ltb, eq-eqb, ne_eqb}
use mathlib.Core.Path.{refl, sym}
use lib.ListN.{length}
use lib.Seq.{length-take-le}
use Rattle.text.proofs.Laws.{part-all}
use Rattle.host_lines.specs.Replies.{word_text, line_text}
use Rattle.host_lines.proofs.line.answer_line.Goals as goal

pub returns-then-line-gt4096 : goal.returns-then-line-gt4096
unfolding line_text
returns-then-line-gt4096 c = rw (lt-ltb _ _ c.if-line-gt4096.true) c.put_refused.ensures

pub slice_bounds-word_of-end : goal.slice_bounds-word_of-end
slice_bounds-word_of-end c = sym (length-take-le _ _ c.word_end-e.ensures.within)

pub returns-then-w-eq0 : goal.returns-then-w-eq0
unfolding line_text word_text
returns-then-w-eq0 c = rw (le-ltb _ _ c.if-line-gt4096.false, ← c.word_end-e.ensures.is, ← c.word_of-w.ensures, eq-eqb _ 0 c.if-w-eq0.true) c.put_refused-then-w-eq0.ensures

pub returns : goal.returns
unfolding line_text word_text
returns c = let line = c.args.line.now in
    let e = c.word_end-e.result in
    rw (le-ltb _ _ c.if-line-gt4096.false, ← c.word_end-e.ensures.is, ← c.word_of-w.ensures, ne_eqb _ 0 c.if-w-eq0.false, ← part-all line e (length line) refl) c.say_tail.ensures
