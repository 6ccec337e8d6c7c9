use mathlib.Core.Path.{◌∙◌}
use native.Mathlib.Omega.{arith}
use lib.ListN.{length-set}
use Rattle.log_blocks.proofs.Seals.{record-puts}
use Rattle.log_blocks.proofs.put_record.Goals as goal

pub bounds-out-at-2 : goal.bounds-out-at-2
bounds-out-at-2 c = omega (arith, c.put_word.auto.out, length-set c.args.out.now c.args.at c.args.kind, c.requires)

pub returns : goal.returns
returns c = let a = c.args in
    c.put_octets.ensures ∙ rw c.put_word.ensures (record-puts a.out.now a.octets.now a.at a.kind a.seconds)
