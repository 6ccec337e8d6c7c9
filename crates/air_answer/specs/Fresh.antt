-- A new air link from EM3's setting.
use Rattle.std.specs.Prelude.{ℕ}
use Rattle.link.specs.Tests.{pick}
use Rattle.link.specs.Watch.{seconds_ok}
use Rattle.air_answer.specs.Record.{fresh}
use Rattle.air_answer.specs.declared.fresh.Opened.{Opened}
use Rattle.refusals.specs.Refusals.{BAD-SETTING}

-- refusal 3, and a record of zeros
unfoldable pub opened : ℕ → Opened
opened setting = pick (seconds_ok setting) (record { refusal = 0; link = fresh setting }) (record { refusal = BAD-SETTING; link = fresh 0 })
