use Rattle.log_script.proofs.Ways.{hears-as, line-short, ready-heard, set-heard, other-heard}
use Rattle.log_script.proofs.line.hear_line.Goals as goal

pub returns-then-octets-lt-ROOM : goal.returns-then-octets-lt-ROOM
returns-then-octets-lt-ROOM c = let a = c.args in
    hears-as _ _ (line-short a.b a.line.now _ c.if-octets-lt-ROOM.true) (c.nothing.ensures _)

pub returns-then-b : goal.returns-then-b
returns-then-b c = let a = c.args in
    hears-as _ _ (ready-heard a.b a.line.now _ c.if-octets-lt-ROOM.false c.if-b.true) c.hear_call.ensures

pub slice_bounds-hear_settings-count : goal.slice_bounds-hear_settings-count
slice_bounds-hear_settings-count c = c.in-Some.ensures.within

pub returns-in-Some : goal.returns-in-Some
returns-in-Some c = let a = c.args in
    hears-as _ _ (set-heard a.b a.line.now _ c.if-octets-lt-ROOM.false c.if-b.false _ c.in-Some.ensures) c.hear_settings.ensures

pub returns-in-None : goal.returns-in-None
returns-in-None c = let a = c.args in
    hears-as _ _ (other-heard a.b a.line.now _ c.if-octets-lt-ROOM.false c.if-b.false c.in-None.ensures) (c.nothing-in-None.ensures _)
