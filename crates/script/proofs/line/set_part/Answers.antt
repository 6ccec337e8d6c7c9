use borrow.Author.Tests.{lt-ltb, le-ltb}
use mathlib.Core.Path.{sym, ◌∙◌}
use lib.Seq.{length-take-le}
use Rattle.script.specs.Lines.{is_set}
use Rattle.script.proofs.line.set_part.Goals as goal

pub returns-then-line-gt-LONGEST : goal.returns-then-line-gt-LONGEST
unfolding is_set
returns-then-line-gt-LONGEST c = rw (lt-ltb _ _ c.if-line-gt-LONGEST.true)

pub slice_bounds-same-end : goal.slice_bounds-same-end
slice_bounds-same-end c = sym (length-take-le _ _ c.word_end-from.ensures.within)

pub returns-then-same : goal.returns-then-same
unfolding is_set
returns-then-same c = let w = c.word_end-from.ensures in
    record { found_is = rw (le-ltb _ _ c.if-line-gt-LONGEST.false, ← w.is) (sym c.same.ensures ∙ c.if-same.true); from_is = w.is; within = w.within }

pub returns-else-same : goal.returns-else-same
unfolding is_set
returns-else-same c = let w = c.word_end-from.ensures in
    rw (le-ltb _ _ c.if-line-gt-LONGEST.false, ← w.is) (sym c.same.ensures ∙ c.if-same.false)
