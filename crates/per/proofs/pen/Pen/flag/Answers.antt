use mathlib.Core.Path.{refl}
use Rattle.per.specs.Formats.{flag, flag_field}
use Rattle.per.proofs.Inks.{inks-kept, field-inked}
use Rattle.per.proofs.pen.Pen.flag.Goals as goal

pub returns-then-self-ne0 : goal.returns-then-self-ne0
returns-then-self-ne0 c = inks-kept flag _ _ _ c.if-self-ne0.true

pub returns : goal.returns
returns c = field-inked flag_field c.if-self-ne0.false refl refl c.bit_of.ensures c.ink.ensures
