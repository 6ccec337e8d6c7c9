use Rattle.std.proofs.Common.{rules, tests}
use Rattle.log_play.specs.Steps.{settings_long}
use Rattle.log_play.proofs.record.is_long.Goals as goal

pub returns-then-n-eq-SETTINGS : goal.returns-then-n-eq-SETTINGS
unfolding settings_long
returns-then-n-eq-SETTINGS c = search (rules, tests)

pub returns-else-n-eq-SETTINGS : goal.returns-else-n-eq-SETTINGS
unfolding settings_long
returns-else-n-eq-SETTINGS c = search (rules, tests)
