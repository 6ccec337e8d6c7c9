use Prim.Native.Nat.{◌+◌}
use mathlib.Core.Path.{◌≡◌, sym, ap, ◌∙◌}
use native.Mathlib.Omega.{arith}
use lib.ListN.{length, length-take}
use lib.Seq.{length-take-le}
use Rattle.log_blocks.specs.Record.{rec, noted, rec_octets}
use Rattle.log_blocks.specs.Tapes.{tape}
use Rattle.std.specs.Prelude.{Ok}
use Rattle.log_blocks.proofs.Seals.{take-least, fits, no_block, no_room, no_more, room}
use Rattle.log_blocks.proofs.append.Goals as goal

pub returns-then-not-fits : goal.returns-then-not-fits
returns-then-not-fits c = let a = c.args in
    no_block a.t a.block.now _ (sym c.fits.ensures ∙ c.if-not-fits.true)

pub overflow_add-used : goal.overflow_add-used
overflow_add-used c = omega (arith, c.least-n.ensures.is)

pub overflow_add-used-2 : goal.overflow_add-used-2
overflow_add-used-2 c = let a = c.args in
    let f = fits a.t _ (sym c.fits.ensures ∙ c.if-not-fits.false) in
    omega (arith, c.least-n.ensures.is, f.room)

pub overflow_add-t : goal.overflow_add-t
overflow_add-t c = let a = c.args in
    let f = fits a.t _ (sym c.fits.ensures ∙ c.if-not-fits.false) in
    omega (arith, f.number)

pub returns-then-t-lt-BLOCKS : goal.returns-then-t-lt-BLOCKS
returns-then-t-lt-BLOCKS c = let a = c.args in
    let r = noted (rec a.kind a.seconds a.octets.now) in
    let l = length-take 129 a.octets.now in
    no_room a.t a.block.now r (sym c.fits.ensures ∙ c.if-not-fits.false)
    (omega (arith, l, c.least-n.ensures.is, c.if-used-gt-ROOM.true))
    c.if-t-lt-BLOCKS.true

pub returns-then-used-gt-ROOM : goal.returns-then-used-gt-ROOM
returns-then-used-gt-ROOM c = let a = c.args in
    let r = noted (rec a.kind a.seconds a.octets.now) in
    let l = length-take 129 a.octets.now in
    no_more a.t a.block.now r (sym c.fits.ensures ∙ c.if-not-fits.false)
    (omega (arith, l, c.least-n.ensures.is, c.if-used-gt-ROOM.true))
    c.if-t-lt-BLOCKS.false

pub overflow_add-t-2 : goal.overflow_add-t-2
overflow_add-t-2 c = omega (arith, c.if-used-gt-ROOM.false)

pub slice_bounds-put_record-end : goal.slice_bounds-put_record-end
slice_bounds-put_record-end c = let n = c.least-n in
    sym (length-take-le n.result c.args.octets.now (omega (arith, n.ensures.within)))

pub put_record-requires : goal.put_record-requires
put_record-requires c = let a = c.args in
    let n = c.least-n in
    let l = length-take-le n.result a.octets.now (omega (arith, n.ensures.within)) in
    let f = fits a.t _ (sym c.fits.ensures ∙ c.if-not-fits.false) in
    omega (arith, l, n.ensures.is, c.if-used-gt-ROOM.false, f.long)

pub returns : goal.returns
returns c = let a = c.args in
    let r = noted (rec a.kind a.seconds a.octets.now) in
    let l = length-take 129 a.octets.now in
    let n = c.least-n.result in
    let m = c.least-n.ensures.is in
    let e : a.t.used + (6 + n) ≡ a.t.used + length (rec_octets r) = omega (arith, l, m) in
    let w = room a.t a.block.now r (sym c.fits.ensures ∙ c.if-not-fits.false) (omega (arith, l, m, c.if-used-gt-ROOM.false)) in
    record {
      answer_is = ap (λ (u : _). Ok (tape a.t.number u)) e ∙ w.answer_is;
      block_is = rw (c.put_record.ensures, take-least 129 n a.octets.now m) w.block_is;
    }
