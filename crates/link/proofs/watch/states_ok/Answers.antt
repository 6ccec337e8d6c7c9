use Rattle.std.proofs.Common.{rules, refl, ◌∙◌}
use borrow.Author.Tests.{tests}
use Rattle.std.proofs.lemmas.Iterator.{YieldsList-from_range}
use Rattle.std.proofs.lemmas.Iterator.Search.{all_from_yields_List}
use Rattle.link.proofs.Laws.{below_range}
use Rattle.link.specs.Watch.{state_ok}
use Rattle.link.proofs.watch.states_ok.Goals as goal

pub returns : goal.returns
unfolding state_ok
returns c =
    all_from_yields_List (state_ok c.args.tops c.args.at) _ _ _ c.all.ensures.ran (YieldsList-from_range 0 5 5 refl refl) (λ x b q k. search (rules, tests))
    ∙ below_range (state_ok c.args.tops c.args.at) 5
