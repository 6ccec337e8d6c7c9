-- The air tables fit the air watch table: one test, computed at each of the 576 states of the five modules. Assumes nothing.
use lib.Dec.{T}
use Rattle.link.specs.Watch.{runs, state_ok, idle}
use Rattle.link.specs.Step.{rest_at}
use Rattle.sides.specs.Tables.{states_ok, apart, near_fits, timer_fits, balanced, fits, states_fit, rest_fits, all_fit}
use Rattle.air_tables.specs.Moves.{dc_rows, contract_rows, em_rows, air_rows}
use Rattle.air_tables.specs.Watch.{air_watch}
use Rattle.air_tables.specs.Tables.{li_ok, li_busy, tops, air_tables}

pub air-fits : T (all_fit air_tables)
unfolding all_fit states_fit rest_fits rest_at fits balanced apart near_fits timer_fits states_ok state_ok runs dc_rows contract_rows em_rows air_rows air_watch idle li_ok li_busy tops air_tables
air-fits = tt
