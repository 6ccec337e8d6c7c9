-- The ground tables as one record of data: what the machinery and its theorems read.
use Rattle.std.specs.Prelude.{Bool, true, not, List, [], ◌∷◌, ℕ, eqb}
use Rattle.link.specs.Tests.{both, either, pick}
use Rattle.link.specs.Names.{PC, LI}
use Rattle.link.specs.Moves.{li_to}
use Rattle.link.specs.Watch.{idle, li_is}
use Rattle.link.specs.declared.moves.Move.{Move}
use Rattle.sides.specs.Tables.{Tables}
use Rattle.ground_tables.specs.Names.{DC-ACTIVE, CANCEL, MODIFY, LI-IDLE, LI-START, LI-ACTIVE, LI-END, DC1, DC2, EC1, EC2, PC1, PC2, PC3, EM1, EM2, LI1}
use Rattle.ground_tables.specs.Moves.{ground_rows, li_end, li_over}
use Rattle.ground_tables.specs.Watch.{ground_watch}
use Rattle.ground_tables.specs.Intervals.{interval_row}

-- "LI in IDLE or END with a module not IDLE" is 29
unfoldable pub li_ok : List ℕ → Bool
li_ok at = pick (either (li_is at LI-IDLE) (li_is at LI-END)) (idle at) true

-- in START and ACTIVE modules move
unfoldable pub li_busy : List ℕ → Bool
li_busy at = either (li_is at LI-START) (li_is at LI-ACTIVE)

-- the last state of each module
unfoldable pub tops : List ℕ
tops = DC-ACTIVE ∷ CANCEL ∷ CANCEL ∷ MODIFY ∷ LI-END ∷ []

-- no module's row moves LI, and PC's rows fit the intervals
unfoldable pub ground_also : List ℕ → ℕ → Move → Bool
ground_also at e m = both (not (eqb LI m.who)) (interval_row at e m)

-- what a start of PC2 loads changes with the interval in force, by moves of PC alone
unfoldable pub ground_tables : Tables
ground_tables =
    record {
      watch = ground_watch;
      tops = tops;
      together = li_ok;
      open_to = li_busy;
      rows = ground_rows;
      owns =
          record { may = λ at. li_is at LI-IDLE; does = li_to LI-START }
          ∷ record { may = li_busy; does = li_to LI-ACTIVE }
          ∷ record { may = λ at. both (li_is at LI-ACTIVE) (idle at); does = li_end }
          ∷ record { may = λ at. li_is at LI-END; does = li_over }
          ∷ [];
      rests = λ li. either (eqb li LI-IDLE) (eqb li LI-ACTIVE);
      changer = λ t. pick (eqb t PC2) PC 5;
      nearby = (DC1 ∷ DC2 ∷ []) ∷ (EC1 ∷ EC2 ∷ []) ∷ (PC1 ∷ PC2 ∷ PC3 ∷ []) ∷ (EM1 ∷ EM2 ∷ PC2 ∷ []) ∷ (LI1 ∷ []) ∷ [];
      also = ground_also;
    }
