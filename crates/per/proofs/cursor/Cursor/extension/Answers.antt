use mathlib.Core.Path.{refl}
use native.Mathlib.Omega.{arith}
use Rattle.per.specs.Formats.{extension_field}
use Rattle.per.proofs.Leaf.{settled-next}
use Rattle.per.proofs.cursor.Cursor.extension.Goals as goal

pub returns : goal.returns
returns c = rw c.settle-r.ensures (record {
  value_is = refl;
  next_is = settled-next extension_field refl (omega arith) _ _ c.take-t.ensures c.extension_bad.ensures;
})
