-- The ground tables fit the ground watch table: one test, computed at each of the 900 states of the five modules. Assumes nothing.
use lib.Dec.{T}
use Rattle.link.specs.Watch.{runs, state_ok, idle}
use Rattle.link.specs.Step.{rest_at}
use Rattle.sides.specs.Tables.{states_ok, apart, near_fits, timer_fits, balanced, fits, states_fit, rest_fits, all_fit}
use Rattle.ground_tables.specs.Moves.{dc_rows, contract_rows, em_rows, ground_rows}
use Rattle.ground_tables.specs.Watch.{ground_watch}
use Rattle.ground_tables.specs.Intervals.{agrees, answers, interval_row}
use Rattle.ground_tables.specs.Tables.{li_ok, li_busy, ground_also, tops, ground_tables}

pub ground-fits : T (all_fit ground_tables)
unfolding agrees answers interval_row ground_also all_fit states_fit rest_fits rest_at fits balanced apart near_fits timer_fits states_ok state_ok runs dc_rows contract_rows em_rows ground_rows ground_watch idle li_ok li_busy tops ground_tables
ground-fits = tt
