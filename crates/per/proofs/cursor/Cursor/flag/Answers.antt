use mathlib.Core.Path.{refl}
use native.Mathlib.Omega.{arith}
use Rattle.per.specs.Formats.{flag_field}
use Rattle.per.proofs.Leaf.{judged-free}
use Rattle.per.proofs.cursor.Cursor.flag.Goals as goal

pub returns : goal.returns
returns c = judged-free flag_field refl (omega arith) c.take-t.ensures (λ i. refl) refl
