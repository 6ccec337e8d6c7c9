use mathlib.Core.Path.{refl}
use native.Mathlib.Omega.{arith}
use Rattle.per.specs.Formats.{count_field}
use Rattle.per.proofs.Leaf.{settled-next, settled-value}
use Rattle.per.proofs.cursor.Cursor.count.Goals as goal

pub returns : goal.returns
returns c = rw c.settle.ensures (record {
  value_is = settled-value count_field refl (omega arith) _ _ c.take-t.ensures c.count_bad.ensures (λ n. n) refl (λ v. refl);
  next_is = settled-next count_field refl (omega arith) _ _ c.take-t.ensures c.count_bad.ensures;
})
