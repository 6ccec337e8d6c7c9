-- EM3 runs exactly in EM-CANCEL: it starts with the cancel-emergency (000:513, 002:5739) and stops with the ground's ack (000:521, 002:5760).
use Rattle.std.specs.Prelude.{set, replicate}
use Rattle.link.specs.declared.watch.Watch.{Watch}
use Rattle.link.specs.Names.{timers, EM}
use Rattle.air_tables.specs.Names.{CANCEL, EM3}

-- the module by whose states the timer goes, the first and the last of the states at which it runs, and the last state of EM. The other places are of no module (5), and their last
-- state comes before their first
unfoldable pub air_watch : Watch
air_watch =
    record {
      who = set (replicate timers 5) EM3 EM;
      first = set (replicate timers 1) EM3 CANCEL;
      last = set (replicate timers 0) EM3 CANCEL;
      em = replicate timers CANCEL;
    }
