use mathlib.Core.List.{◌++◌}
use Prim.Native.Nat.{◌+◌}
use lib.Dec.{ltb}
use lib.ListN.{get_or}
use Rattle.std.proofs.Common.{◌≡◌, rules}
use Rattle.link.specs.Acts.{one}
use Rattle.link.specs.Step.{performed, left_after, acts_of}
use Rattle.link.proofs.Laws.{push-first, push-next}
use Rattle.link.specs.Names.{timers}
use Rattle.link.proofs.executor.Step.perform.Goals as goal

pub returns : goal.returns
unfolding performed left_after acts_of
returns c = let m = c.args.m in
    let s = c.args.self.acts in
    let h₁ = push-first s (ltb m.stop timers) (16 + m.stop) c.push_timer.ensures in
    let h₂ = push-next s (one (ltb m.stop timers) (16 + m.stop)) m.ind 5 h₁ c.push_when.ensures in
    let h₃ = push-next s (one (ltb m.stop timers) (16 + m.stop) ++ one m.ind 5) m.send c.args.send h₂ c.push_when-2.ensures in
    let h₄ =
    push-next s (one (ltb m.stop timers) (16 + m.stop) ++ one m.ind 5 ++ one m.send c.args.send) (ltb m.start timers) (32 + m.start) h₃ c.push_timer-2.ensures in
    let full : c.unwrap_or-full.result ≡ get_or c.args.most m.start 0 = search rules in
    rw (c.put_state.ensures, c.put-2.ensures, c.put.ensures, full, h₄)
