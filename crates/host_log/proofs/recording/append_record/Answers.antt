use mathlib.Core.Path.{sym, ◌∙◌}
use native.Mathlib.Omega.{arith}
use Rattle.log_blocks.specs.Record.{rec}
use Rattle.host_log.proofs.Ways.{not-open, not-fields, no_room, wrote-small, took}
use Rattle.host_log.proofs.recording.append_record.Goals as goal

pub returns-then-not-is_open : goal.returns-then-not-is_open
returns-then-not-is_open c = not-open c.args.block.now _ (sym c.is_open.ensures ∙ c.if-not-is_open.true)

pub returns-then-not-fields_good : goal.returns-then-not-fields_good
returns-then-not-fields_good c = not-fields c.args.block.now _ (sym c.is_open.ensures ∙ c.if-not-is_open.false) (sym c.fields_good.ensures ∙ c.if-not-fields_good.true)

pub returns-in_default : goal.returns-in_default
returns-in_default c = let a = c.args in
    let r = rec a.kind a.seconds a.octets.now in
    let h = sym c.is_open.ensures ∙ c.if-not-is_open.false in
    let f = sym c.fields_good.ensures ∙ c.if-not-fields_good.false in
    no_room a.block.now r h f _ _ (rw c.tape_in.ensures at c.append.ensures) c.in_default.not-Ok

pub overflow_cast-next : goal.overflow_cast-next
overflow_cast-next c = let w = rw (c.tape_in.ensures, c.in-Ok.is) at c.append.ensures in
    omega (arith, wrote-small _ _ _ _ _ w)

pub returns : goal.returns
returns c = let a = c.args in
    let r = rec a.kind a.seconds a.octets.now in
    let h = sym c.is_open.ensures ∙ c.if-not-is_open.false in
    let f = sym c.fields_good.ensures ∙ c.if-not-fields_good.false in
    took a.block.now r h f _ _ _ (rw (c.tape_in.ensures, c.in-Ok.is) at c.append.ensures) c.put_pair.ensures
