use borrow.Author.Tests.{not-true, not-false}
use native.Mathlib.Omega.{arith}
use lib.ListN.{length}
use Rattle.std.proofs.Common.{◌≡◌, rules}
use Rattle.std.specs.Prelude.{None}
use Rattle.script.proofs.Rooms.{room_of}
use Rattle.log_script.specs.Heard.{heard_line, Hears}
use Rattle.log_script.proofs.Ways.{hears-whole}
use Rattle.log_script.proofs.Notes.{line-none, line-ended, line-noted}
use Rattle.log_script.proofs.recorder.add_line.Goals as goal
use Rattle.log_script.proofs.recorder.add_line.Goals.{After-hear_line-e}

-- what the line left, in a buffer that has room for any
heard : (c : After-hear_line-e) → Hears (heard_line c.args.r.setup c.args.line.now) c.hear_line-e.result c.hear_line-e.new.octets
heard c =
    hears-whole c.args.r.setup c.args.line.now (length c.line_room-octets.result) (omega (arith, room_of 2048 c.line_room-octets.ensures)) _ _ c.hear_line-e.ensures

pub returns-in-Some : goal.returns-in-Some
returns-in-Some c = let a = c.args in
    line-noted a.r a.block.now _ _ _ (heard (goal.at.returns-in-Some c).After-hear_line-e) _ c.in-Some.is _ _ _ _ (not-true _ c.if-not-r.true) c.note.ensures

pub returns-in_default : goal.returns-in_default
returns-in_default c = let a = c.args in
    line-ended a.r a.block.now _ _ _ (heard (goal.at.returns-in_default c).After-hear_line-e) _ c.in-Some.is a.out.now (not-false _ c.if-not-r.false)

pub returns-in_default-2 : goal.returns-in_default-2
returns-in_default-2 c = let a = c.args in
    let none : c.hear_line-e.result.kept ≡ None = search rules in
    line-none a.r a.block.now _ _ _ (heard (goal.at.returns-in_default-2 c).After-hear_line-e) a.out.now none
