use mathlib.Core.Path.{refl}
use Rattle.per.specs.Formats.{count, count_field}
use Rattle.per.specs.laws.Codec.{unless-le, unless-gt}
use Rattle.per.proofs.Inks.{inks-kept, field-barred, field-inked}
use Rattle.per.proofs.pen.Pen.count.Goals as goal

pub returns-then-self-ne0 : goal.returns-then-self-ne0
returns-then-self-ne0 c = inks-kept count _ _ _ c.if-self-ne0.true

pub returns-then-n-gt16 : goal.returns-then-n-gt16
returns-then-n-gt16 c = rw c.number.ensures.is (field-barred count_field 11 c.if-self-ne0.false (unless-gt _ _ 12 c.if-n-gt16.true))

pub returns : goal.returns
returns c = field-inked count_field c.if-self-ne0.false (unless-le _ _ 12 c.if-n-gt16.false) refl refl c.ink.ensures
