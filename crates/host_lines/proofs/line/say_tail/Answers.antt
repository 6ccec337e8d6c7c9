use mathlib.Core.Path.{◌≡◌, sym}
use lib.ListN.{length}
use mathlib.Core.Path.{sym}
use native.Mathlib.Omega.{arith}
use borrow.Author.Tests.{not-true, not-false}
use lib.Seq.{length-take-le}
use Rattle.host_lines.specs.Fields.{asked_in, numbers_asked}
use Rattle.host_lines.specs.Replies.{ask_text}
use Rattle.std.proofs.Common.{rules}
use Rattle.host_lines.proofs.line.say_tail.Goals as goal

pub returns-then-not-f : goal.returns-then-not-f
unfolding ask_text asked_in numbers_asked
returns-then-not-f c = rw (← c.parse-a.ensures.is, not-true c.parse-a.result.numbers.good c.if-not-f.true) c.put_refused.ensures

pub slice_bounds-say_call-end : goal.slice_bounds-say_call-end
slice_bounds-say_call-end c = sym (length-take-le _ _ (search rules))

pub slice_bounds-say_call-end-2 : goal.slice_bounds-say_call-end-2
slice_bounds-say_call-end-2 c = sym (length-take-le _ _ (search rules))

pub slice_bounds-list-end : goal.slice_bounds-list-end
slice_bounds-list-end c = let l : length c.parse-a.result.numbers.list ≡ 48 = search rules in
    omega (arith, c.parse-a.ensures.numbers_fit)

pub slice_bounds-say_call-end-3 : goal.slice_bounds-say_call-end-3
slice_bounds-say_call-end-3 c = let l : length c.parse-a.result.numbers.list ≡ 48 = search rules in
    sym (length-take-le _ _ (omega (arith, c.parse-a.ensures.numbers_fit)))

pub slice_bounds-say_call-end-4 : goal.slice_bounds-say_call-end-4
slice_bounds-say_call-end-4 c = sym (length-take-le _ _ (search rules))

pub returns : goal.returns
unfolding ask_text asked_in numbers_asked
returns c = rw (← c.parse-a.ensures.is, not-false c.parse-a.result.numbers.good c.if-not-f.false) c.say_call.ensures
