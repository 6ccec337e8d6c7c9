use mathlib.Core.Path.{ap, ◌∙◌}
use mir.Syntax.{w32}
use mir.Val.{of_z}
use mir.Facts.{to_z-of_z}
use Rattle.host_numbers.specs.Numbers.{twos}
use Rattle.host_numbers.proofs.numbers.complement.Goals as goal

pub returns : goal.returns
unfolding twos
returns c = c.cast_unsigned.ensures ∙ ap (of_z w32) (to_z-of_z {w = w32} {z = c.args.z.number} (record { sfits = c.struct_told-1.given.0.1 }))
