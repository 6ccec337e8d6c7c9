use Rattle.per.specs.Formats.{signed, signed_field}
use Rattle.per.proofs.Inks.{inks-kept, field-barred, field-inked}
use Rattle.per.proofs.pen.Pen.signed.Goals as goal

pub returns-then-self-ne0 : goal.returns-then-self-ne0
returns-then-self-ne0 c = inks-kept (signed _ _) _ _ _ c.if-self-ne0.true

pub returns-then-most-sent : goal.returns-then-most-sent
returns-then-most-sent c = rw c.number.ensures.is (field-barred (signed_field _ _) 4 c.if-self-ne0.false (c.raise-sent.ensures.beyond c.if-most-sent.true))

pub returns : goal.returns
returns c = let r = c.raise-sent.ensures.within c.if-most-sent.false in
    field-inked (signed_field _ _) c.if-self-ne0.false r.0 c.width_of.ensures.0 r.1 c.ink.ensures
