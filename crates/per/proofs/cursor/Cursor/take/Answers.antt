use native.Mathlib.Omega.{arith}
use Rattle.per.proofs.Octets.{window-most}
use Rattle.per.proofs.Leaf.{take-kept, take_short, take-wide, take-good, run-below}
use Rattle.per.proofs.cursor.Cursor.take.Goals as goal

pub returns-then-self-ne0 : goal.returns-then-self-ne0
returns-then-self-ne0 c = take-kept _ _ _ c.if-self-ne0.true

pub returns-then-left-w : goal.returns-then-left-w
returns-then-left-w c = rw c.refused.ensures (take_short _ _ _ c.if-self-ne0.false (omega arith))

pub overflow_add-next : goal.overflow_add-next
overflow_add-next c = omega (arith, window-most c.args.s.now)

pub overflow_cast-value : goal.overflow_cast-value
overflow_cast-value c = record { fits = run-below 32 _ _ _ _ c.bits_at-value.ensures (omega arith) }

pub returns-then-w-le8 : goal.returns-then-w-le8
returns-then-w-le8 c = take-good _ _ _ _ c.if-self-ne0.false (omega arith) (omega arith) c.bits_at-value.ensures

pub returns-then-w-gt32 : goal.returns-then-w-gt32
returns-then-w-gt32 c = rw c.refused-then-w-gt32.ensures (take-wide _ _ _ c.if-self-ne0.false (omega arith) c.if-w-gt32.true)

pub overflow_cast-value-2 : goal.overflow_cast-value-2
overflow_cast-value-2 c = record { fits = run-below 32 _ _ _ _ c.bits_at-value-2.ensures (omega arith) }

pub returns : goal.returns
returns c = take-good _ _ _ _ c.if-self-ne0.false (omega arith) (omega arith) c.bits_at-value-2.ensures
