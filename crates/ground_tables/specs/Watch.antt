-- "In this order: DC1 DC-PENDING; DC2 DC-ACTIVE; EC1 EC-START-PENDING, EC-PENDING; EC2 EC-CANCEL; PC1 PC-START-PENDING, PC-PENDING; PC2 PC-ACTIVE with
-- EM-IDLE; PC3 PC-CANCEL; EM1 EM-ACTIVE; EM2 EM-MODIFY." And of 02, L8: "a timer LI1, last in the watch order: it .. runs exactly in END".
use Rattle.std.specs.Prelude.{[], ◌∷◌}
use Rattle.link.specs.declared.watch.Watch.{Watch}
use Rattle.link.specs.Names.{DC, EC, PC, EM, LI, IDLE}
use Rattle.ground_tables.specs.Names.{DC-PENDING, DC-ACTIVE, START-PENDING, PENDING, ACTIVE, CANCEL, EM-ACTIVE, MODIFY, LI-END}

-- the module by whose states the timer goes, the first and the last of the states at which it runs, and the last state of EM: IDLE alone for PC2
unfoldable pub ground_watch : Watch
ground_watch =
    record {
      who = DC ∷ DC ∷ EC ∷ EC ∷ PC ∷ PC ∷ PC ∷ EM ∷ EM ∷ LI ∷ [];
      first = DC-PENDING ∷ DC-ACTIVE ∷ START-PENDING ∷ CANCEL ∷ START-PENDING ∷ ACTIVE ∷ CANCEL ∷ EM-ACTIVE ∷ MODIFY ∷ LI-END ∷ [];
      last = DC-PENDING ∷ DC-ACTIVE ∷ PENDING ∷ CANCEL ∷ PENDING ∷ ACTIVE ∷ CANCEL ∷ EM-ACTIVE ∷ MODIFY ∷ LI-END ∷ [];
      em = MODIFY ∷ MODIFY ∷ MODIFY ∷ MODIFY ∷ MODIFY ∷ IDLE ∷ MODIFY ∷ MODIFY ∷ MODIFY ∷ MODIFY ∷ [];
    }
