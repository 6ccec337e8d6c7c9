use borrow.Author.Tests.{eq-eqb, ne_eqb}
use Rattle.script.specs.Fields.{hex_field, held_in}
use Rattle.script.proofs.Heard.{hex_in, hex-heard}
use Rattle.script.proofs.line.hold_octets.Goals as goal

pub returns-then-tail-eq0 : goal.returns-then-tail-eq0
unfolding hex_field held_in
returns-then-tail-eq0 c = rw (eq-eqb _ 0 c.if-tail-eq0.true)

pub returns-then-tail-eq1 : goal.returns-then-tail-eq1
unfolding hex_field held_in
returns-then-tail-eq1 c = rw (ne_eqb _ 0 c.if-tail-eq0.false, eq-eqb _ 1 c.if-tail-eq1.true)

pub returns-in-Ok : goal.returns-in-Ok
unfolding held_in hex_in
returns-in-Ok c = let h = c.in-Ok.ensures in
    let is = hex-heard c.args.tail.now c.args.octets.now c.if-tail-eq0.false c.if-tail-eq1.false c.requires.0 c.requires.1 in
    rw (← h.found_is, ← h.buffer_is) at is

pub returns-in-Err : goal.returns-in-Err
unfolding held_in hex_in
returns-in-Err c = let h = c.in-Err.ensures in
    let is = hex-heard c.args.tail.now c.args.octets.now c.if-tail-eq0.false c.if-tail-eq1.false c.requires.0 c.requires.1 in
    rw (← h.found_is) at is
