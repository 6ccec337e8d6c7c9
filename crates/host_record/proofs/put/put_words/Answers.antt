use Prim.Native.Nat.{◌+◌, ◌*◌}
use mathlib.Core.Path.{◌≡◌, refl, sym, ◌∙◌}
use native.Mathlib.Omega.{arith}
use lib.ListN.{length, get_or}
use lib.Seq.{length-sets}
use Rattle.std.proofs.Common.{rules}
use Rattle.link.specs.Names.{timers}
use Rattle.octets.specs.Octets.{quad}
use Rattle.host_record.proofs.Puts.{quads-start, quads-step, quads-end}
use Rattle.host_record.proofs.put.put_words.Goals as goal

pub loop-i-init : goal.loop-i-init
loop-i-init c = (refl, quads-start c.args.ws c.args.out.now c.args.at)

pub loop-i-preserved : goal.loop-i-preserved
loop-i-preserved c = let ws = c.args.ws in
    let i = c.loop-i.i in
    let n : length ws ≡ timers = search rules in
    rw c.put_word.ensures (length-sets c.loop-i.out (c.args.at + i * 4) (quad (get_or ws i 0)) ∙ c.loop-i.invariant.0, quads-step ws c.loop-i.out c.args.at i (omega (arith, n)) ∙ c.loop-i.invariant.1)

pub returns : goal.returns
returns c = let n : length c.args.ws ≡ timers = search rules in
    sym (quads-end c.args.ws c.loop-i.out c.args.at c.loop-i.i (omega (arith, n))) ∙ c.loop-i.invariant.1
