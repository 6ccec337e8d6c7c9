use Rattle.std.proofs.Common.{◌≡◌, rules}
use Rattle.log_blocks.specs.declared.NotWritten.TheVariants.{Full}
use Rattle.std.specs.Prelude.{Err}
use Rattle.log_script.proofs.Notes.{entry-short, note-one, note-two}
use Rattle.log_script.proofs.recorder.note.Goals as goal
use Rattle.log_script.proofs.recorder.note.Goals.{in_default-via-in-Err+in_default, in_default-via-in_default}

pub returns-in_default : goal.returns-in_default
returns-in_default c = let a = c.args in
    let f = c.put_entry-first in
    note-one a.r a.block.now a.out.now _ f.result _ f.ensures
    (λ e. elim c.in_default.branch [ in_default-via-in-Err+in_default w ↦ search rules | in_default-via-in_default w ↦ search rules ]) _ c.settled.ensures

pub returns : goal.returns
returns c = let a = c.args in
    let f = c.put_entry-first in
    let s = c.put_entry-second in
    let full : f.result ≡ Err Full = search rules in
    note-two a.r a.block.now a.out.now _ f.result _ f.ensures full (entry-short a.k a.octets.now) _ _ _ c.turn_block-turned.ensures _ _ s.ensures _ c.settled-2.ensures
