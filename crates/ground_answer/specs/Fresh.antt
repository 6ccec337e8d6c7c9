-- A new link from ten settings in watch order.
use Rattle.std.specs.Prelude.{ℕ, List, replicate}
use Rattle.link.specs.Tests.{pick, below}
use Rattle.link.specs.Names.{timers}
use Rattle.link.specs.Watch.{setting_ok}
use Rattle.ground_answer.specs.Record.{fresh}
use Rattle.ground_answer.specs.declared.fresh.Opened.{Opened}
use Rattle.refusals.specs.Refusals.{BAD-SETTING}

-- refusal 3, and a record of zeros
unfoldable pub opened : List ℕ → Opened
opened s =
    pick (below timers (setting_ok s)) (record { refusal = 0; link = fresh s }) (record { refusal = BAD-SETTING; link = fresh (replicate timers 0) })
