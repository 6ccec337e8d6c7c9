use mir.Syntax.{w32}
use mir.Facts.{to_z-of_z}
use Rattle.host_numbers.specs.Numbers.{signed_of}
use Rattle.host_numbers.proofs.numbers.signed_at.Goals as goal

pub returns : goal.returns
unfolding signed_of
returns c = rw (to_z-of_z {w = w32} (record { sfits = c.cast_signed-number.type_inv }), c.cast_signed-number.ensures, c.number.ensures)
