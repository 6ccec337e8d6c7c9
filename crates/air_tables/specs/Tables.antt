-- The air tables as one record of data: what the machinery and its theorems read.
use Rattle.std.specs.Prelude.{Bool, true, false, not, List, [], ◌∷◌, ℕ, eqb, get_or}
use Rattle.link.specs.Tests.{both, pick}
use Rattle.link.specs.Names.{DC, EC, PC, EM, LI, IDLE}
use Rattle.link.specs.Moves.{to, stop, li_to}
use Rattle.link.specs.Watch.{idle, li_is}
use Rattle.sides.specs.Tables.{Tables}
use Rattle.air_tables.specs.Names.{DC-ACTIVE, ACTIVE-PENDING, CANCEL, EM3, LI-IDLE, LI-START, LI-ACTIVE}
use Rattle.air_tables.specs.Moves.{air_rows, li_answer}
use Rattle.air_tables.specs.Watch.{air_watch}

-- LI in IDLE with a module not IDLE is 29
unfoldable pub li_ok : List ℕ → Bool
li_ok at = pick (li_is at LI-IDLE) (idle at) true

-- in START and ACTIVE modules move
unfoldable pub li_busy : List ℕ → Bool
li_busy at = not (li_is at LI-IDLE)

-- EM waits for the ack of a cancelled emergency
abbrev pub cancels : List ℕ → Bool
cancels at = eqb (get_or at EM 0) CANCEL

-- the last state of each module
unfoldable pub tops : List ℕ
tops = DC-ACTIVE ∷ ACTIVE-PENDING ∷ ACTIVE-PENDING ∷ CANCEL ∷ LI-ACTIVE ∷ []

-- a start indication leads from IDLE to START, the first response from START to ACTIVE (000:611-623; 002:6004-6044). An end indication is answered in ACTIVE, then the modules stop
-- one after the other, then LI is IDLE (002:6070-6080), which is where everything rests. No row moves LI, and what a start of EM3 loads never changes
unfoldable pub air_tables : Tables
air_tables =
    record {
      watch = air_watch;
      tops = tops;
      together = li_ok;
      open_to = li_busy;
      rows = air_rows;
      owns =
          record { may = λ at. li_is at LI-IDLE; does = li_to LI-START }
          ∷ record { may = li_busy; does = li_to LI-ACTIVE }
          ∷ record { may = λ at. li_is at LI-ACTIVE; does = li_answer false }
          ∷ record { may = λ at. li_is at LI-ACTIVE; does = li_answer true }
          ∷ record { may = λ at. li_is at LI-ACTIVE; does = to DC IDLE }
          ∷ record { may = λ at. li_is at LI-ACTIVE; does = to EC IDLE }
          ∷ record { may = λ at. li_is at LI-ACTIVE; does = to PC IDLE }
          ∷ record { may = λ at. both (li_is at LI-ACTIVE) (cancels at); does = stop EM3 (to EM IDLE) }
          ∷ record { may = λ at. both (li_is at LI-ACTIVE) (not (cancels at)); does = to EM IDLE }
          ∷ record { may = λ at. both (li_is at LI-ACTIVE) (idle at); does = li_to LI-IDLE }
          ∷ [];
      rests = λ li. eqb li LI-IDLE;
      changer = λ t. 5;
      nearby = [] ∷ [] ∷ [] ∷ (EM3 ∷ []) ∷ [] ∷ [];
      also = λ at e m. not (eqb LI m.who);
    }
