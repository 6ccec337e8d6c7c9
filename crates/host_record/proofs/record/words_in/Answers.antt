use mathlib.Core.Path.{◌≡◌, refl, ◌∙◌}
use native.Mathlib.Omega.{arith}
use lib.ListN.{replicate}
use Rattle.link.specs.Names.{timers}
use Rattle.host_record.proofs.Puts.{words_step}
use Rattle.host_record.proofs.record.words_in.Goals as goal

pub loop-i-init : goal.loop-i-init
loop-i-init c = refl

pub loop-i-preserved : goal.loop-i-preserved
loop-i-preserved c = rw (c.loop-i.invariant, c.word_in.ensures) (words_step (replicate timers 0) c.args.s.now c.args.at c.loop-i.i)

pub returns : goal.returns
returns c = let e : c.loop-i.i ≡ timers = omega arith in c.loop-i.invariant ∙ rw e
