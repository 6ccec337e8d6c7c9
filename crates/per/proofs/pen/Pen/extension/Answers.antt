use mathlib.Core.Path.{refl}
use Rattle.per.specs.Formats.{extension, extension_field}
use Rattle.per.proofs.Inks.{inks-kept, field-inked}
use Rattle.per.proofs.pen.Pen.extension.Goals as goal

pub returns-then-self-ne0 : goal.returns-then-self-ne0
returns-then-self-ne0 c = inks-kept extension _ _ _ c.if-self-ne0.true

pub returns : goal.returns
returns c = field-inked extension_field c.if-self-ne0.false refl refl refl c.ink.ensures
