use borrow.Author.Tests.{lt-ltb, le-leb, lt-leb}
use mathlib.Core.Path.{sym, ◌∙◌, ap}
use lib.Seq.{length-take-le}
use Rattle.text.specs.Words.{words_of}
use Rattle.script.specs.Fields.{held_in}
use Rattle.script.specs.Lines.{heard, heard_line, heard_into, heard_in}
use Rattle.script.proofs.Heard.{word-heard}
use Rattle.script.proofs.line.read_line.Goals as goal

pub returns-then-octets-lt2048 : goal.returns-then-octets-lt2048
unfolding heard_into heard_in held_in
returns-then-octets-lt2048 c = rw (lt-leb 2048 _ c.if-octets-lt2048.true)

pub returns-then-line-gt-LONGEST : goal.returns-then-line-gt-LONGEST
unfolding heard_into heard_line heard_in held_in
returns-then-line-gt-LONGEST c = rw (le-leb 2048 _ c.if-octets-lt2048.false, lt-ltb _ _ c.if-line-gt-LONGEST.true)

pub slice_bounds-find-end : goal.slice_bounds-find-end
slice_bounds-find-end c = sym (length-take-le _ _ c.word_end-e.ensures.within)

pub returns : goal.returns
unfolding heard_into heard_in
returns c = let args = c.args in
    let is = word-heard (words_of args.words.now args.begins.now) args.shapes.now args.line.now c.word_end-e.result c.find-w.result c.shape_at-shape.result c.if-line-gt-LONGEST.false c.word_end-e.ensures.is c.find-w.ensures c.shape_at-shape.ensures in
    rw (le-leb 2048 _ c.if-octets-lt2048.false) (ap (heard c.find-w.result) c.hold-held.ensures ∙ is)
