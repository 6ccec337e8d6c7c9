use Rattle.std.proofs.Common.{◌≡◌, length, rules, ◌-◌}
use borrow.Author.Tests.{tests}
use Rattle.link.proofs.Laws.{map_of_calls}
use Rattle.link.specs.Clock.{later}
use Rattle.link.specs.Names.{timers}
use Rattle.link.proofs.clock.after.Goals as goal

pub returns : goal.returns
unfolding later
returns c =
    let long : length c.args.left ≡ timers = search rules in
    map_of_calls _ (λ x. x - c.args.n) _ (λ x y q k. search (rules, tests)) long c.map.ensures.items
