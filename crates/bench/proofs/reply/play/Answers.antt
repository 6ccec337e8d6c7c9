use mathlib.Core.Path.{refl, sym, ◌∙◌}
use Prim.Native.Nat.{◌≤◌}
use native.Mathlib.Nat.{le_trans, min-le_left}
use native.Mathlib.Omega.{arith}
use lib.Dec.{lit≤}
use lib.ListN.{length, take, length-take}
use lib.Seq.{length-take-le}
use Rattle.text.proofs.Laws.{take-least}
use Rattle.bench_line.specs.Lines.{parsed_in, ground_script}
use Rattle.script.specs.Replies.{play_reply}
use Rattle.script.proofs.Heard.{with-room}
use Rattle.script.proofs.Rooms.{room_of}
use Rattle.bench.specs.Replies.{answer_reply}
use Rattle.bench.proofs.reply.play.Goals as goal

pub returns-in_default : goal.returns-in_default
unfolding play_reply parsed_in
returns-in_default c = let line = c.args.line.now in
    let is = with-room ground_script (length c.line_room-octets.result) line (omega (arith, room_of 2048 c.line_room-octets.ensures)) in
    rw (← is, ← c.parse_line-told.ensures, c.in_default.is) c.refuse_line.ensures

pub slice_bounds-answer_lent-end : goal.slice_bounds-answer_lent-end
slice_bounds-answer_lent-end c = sym (length-take-le _ _ (omega (arith, c.least-m.ensures.within)))

pub slice_bounds-put_answer-end : goal.slice_bounds-put_answer-end
slice_bounds-put_answer-end c = sym (length-take-le _ _ (omega (arith, c.least-m.ensures.within)))

pub returns : goal.returns
unfolding play_reply parsed_in answer_reply
returns c = let line = c.args.line.now in
    let blank = c.line_room-octets in
    let long = room_of 2048 blank.ensures in
    let octets = c.parse_line-told.new.octets in
    let is = with-room ground_script (length blank.result) line (omega arith) in
    let whole = c.parse_line-told.auto.octets ∙ long in
    let short : length (take c.least-m.result octets) ≤ 2048 = omega (arith, c.least-m.ensures.within, length-take c.least-m.result octets, min-le_left c.least-m.result (length octets)) in
    rw (← is, ← c.parse_line-told.ensures, c.in-Makes.is, ← take-least c.in-Makes.n 2048 octets whole, ← c.least-m.ensures.is, ← c.answer_lent-a.ensures)
    (record { box_is = refl; text_is = c.put_answer-e.ensures.text_is; short = le_trans (c.put_answer-e.ensures.short short) (lit≤ tt) })
