use Rattle.flight_line.proofs.Ways.{long-line, short-line}
use Rattle.flight_line.specs.Lines.{flight_as, flight_words}
use Rattle.text.proofs.Laws.{part-all}
use Rattle.text.specs.Words.{found_from}
use lib.ListN.{length, take}
use lib.Seq.{length-take-le}
use Rattle.world.specs.World.{world_of}
use borrow.Author.Tests.{ne_eqb}
use Prim.Native.Nat.{ℕ}
use mathlib.Core.Path.{refl, sym, ap, ◌∙◌}
use Rattle.flight_line.proofs.line.fly_line.Goals as goal

pub returns-then-line-gt-LONGEST : goal.returns-then-line-gt-LONGEST
returns-then-line-gt-LONGEST c = rw (long-line (world_of c.args.w) c.args.number c.args.line.now c.if-line-gt-LONGEST.true) c.refuse_line.ensures

pub slice_bounds-find-end : goal.slice_bounds-find-end
slice_bounds-find-end c = sym (length-take-le _ _ c.word_end-e.ensures.within)

pub slice_bounds-other_line-count : goal.slice_bounds-other_line-count
slice_bounds-other_line-count c = c.word_end-e.ensures.within

pub returns-in-1 : goal.returns-in-1
unfolding flight_as
returns-in-1 c = rw (short-line (world_of c.args.w) c.args.number c.args.line.now c.find-word.result c.if-line-gt-LONGEST.false (c.find-word.ensures ∙ ap (λ (e : ℕ). found_from 0 (take e c.args.line.now) flight_words) c.word_end-e.ensures.is), c.in-1.is) c.ground_line.ensures

pub returns-in-2 : goal.returns-in-2
unfolding flight_as
returns-in-2 c = rw (short-line (world_of c.args.w) c.args.number c.args.line.now c.find-word.result c.if-line-gt-LONGEST.false (c.find-word.ensures ∙ ap (λ (e : ℕ). found_from 0 (take e c.args.line.now) flight_words) c.word_end-e.ensures.is), c.in-2.is) c.air_line.ensures

pub returns-in_default : goal.returns-in_default
unfolding flight_as
returns-in_default c = rw (short-line (world_of c.args.w) c.args.number c.args.line.now c.find-word.result c.if-line-gt-LONGEST.false (c.find-word.ensures ∙ ap (λ (e : ℕ). found_from 0 (take e c.args.line.now) flight_words) c.word_end-e.ensures.is), ne_eqb _ 1 c.in_default.in_default-own.rest.0.1, ne_eqb _ 2 c.in_default.in_default-own.rest.1, ← c.word_end-e.ensures.is, ← part-all c.args.line.now c.word_end-e.result (length c.args.line.now) refl) c.other_line.ensures
