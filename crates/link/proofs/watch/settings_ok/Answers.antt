use Rattle.std.proofs.Common.{◌≡◌, rules, length, ◌∙◌}
use borrow.Author.Tests.{tests}
use Rattle.std.proofs.lemmas.Iterator.{YieldsList-from_slice}
use Rattle.std.proofs.lemmas.Iterator.Search.{all_from_yields_List}
use Rattle.link.proofs.Laws.{below_list}
use Rattle.link.specs.Names.{timers}
use Rattle.link.specs.Watch.{seconds_ok, setting_ok}
use Rattle.link.proofs.watch.settings_ok.Goals as goal

pub returns : goal.returns
unfolding setting_ok
returns c = let long : length c.args.s ≡ timers = search rules in
    all_from_yields_List seconds_ok _ _ _ c.all.ensures.ran (YieldsList-from_slice c.args.s cc) (λ x b q k. search (rules, tests))
    ∙ below_list seconds_ok c.args.s long
