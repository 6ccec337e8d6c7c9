use native.Mathlib.Omega.{arith}
use Rattle.per.specs.Formats.{signed_field}
use Rattle.per.specs.laws.Codec.{unless-le, unless-gt}
use Rattle.per.proofs.Leaf.{judged-kept, judged-bad, judged-good}
use Rattle.per.proofs.SignedRead.{less-fits, less-is}
use Rattle.per.proofs.cursor.Cursor.signed.Goals as goal

pub returns-then-t-ne0 : goal.returns-then-t-ne0
returns-then-t-ne0 c = let w = c.width_of.ensures in
    judged-kept (signed_field _ _) w.0 w.1 c.take-t.ensures c.if-t-ne0.true

pub returns-then-most-t : goal.returns-then-most-t
returns-then-most-t c = let w = c.width_of.ensures in
    rw c.refused.ensures (judged-bad (signed_field _ _) w.0 w.1 c.take-t.ensures 7 c.if-t-ne0.false (unless-gt _ _ 8 c.if-most-t.true))

pub overflow_sub-number : goal.overflow_sub-number
overflow_sub-number c = less-fits c.take-t.result.value c.args.below (omega arith) (omega arith)

pub returns : goal.returns
returns c = let w = c.width_of.ensures in
    rw (less-is c.take-t.result.value c.args.below (omega arith) (omega arith))
    (judged-good (signed_field _ _) w.0 w.1 c.take-t.ensures c.if-t-ne0.false (unless-le _ _ 8 c.if-most-t.false))
