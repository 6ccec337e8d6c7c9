use Rattle.std.proofs.Common.{◌≡◌, rules, not, length, ◌∙◌}
use borrow.Author.Tests.{tests}
use Rattle.std.proofs.lemmas.Iterator.{YieldsList-from_slice}
use Rattle.std.proofs.lemmas.Iterator.Search.{all_from_yields_List}
use Rattle.link.proofs.Laws.{below_list}
use Rattle.link.specs.Clock.{due, not_due}
use Rattle.link.specs.Names.{timers}
use Rattle.link.proofs.clock.none_due.Goals as goal

pub returns : goal.returns
unfolding not_due
returns c = let long : length c.args.left ≡ timers = search rules in
    all_from_yields_List (λ x. not (due c.args.n x)) _ _ _ c.all.ensures.ran (YieldsList-from_slice c.args.left cc) (λ x b q k. search (rules, tests))
    ∙ below_list (λ x. not (due c.args.n x)) c.args.left long
