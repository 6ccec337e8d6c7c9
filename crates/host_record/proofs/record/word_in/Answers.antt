use Prim.Native.Nat.{◌+◌, ◌-◌}
use mathlib.Core.Path.{◌∙◌}
use native.Mathlib.Omega.{arith}
use Rattle.host_record.proofs.Loads.{part-word}
use Rattle.host_record.proofs.record.word_in.Goals as goal

pub returns : goal.returns
returns c = let a = c.args in c.read_word.ensures ∙ part-word a.s.now a.at (a.at + 4 - a.at) (omega arith)
