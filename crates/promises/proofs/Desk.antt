-- The desk's question, from demand 3 as the page has it. Assumes nothing.
use mathlib.Core.Path.{◌≡◌, refl}
use Prim.Native.Nat.{◌<◌}
use native.Mathlib.Omega.{arith}
use lib.Dec.{lit<}
use lib.ListN.{get_or}
use Rattle.link.specs.Names.{timers, PC, EM, IDLE}
use Rattle.link.specs.Watch.{runs}
use Rattle.ground_tables.specs.Names.{ACTIVE, PC2}
use Rattle.ground_tables.specs.Watch.{ground_watch}
use Rattle.ground_tables.specs.Tables.{ground_tables}
use Rattle.ground_answer.specs.declared.record.Link.{Link}
use Rattle.ground.specs.Runs.{ground}
use Rattle.promises.proofs.Timers.{timers-hold}
use Rattle.promises.specs.Sides.{Named}
use Rattle.promises.specs.Timers.{played, Timers, Desk}

-- PC-ACTIVE with EM-IDLE is where PC2 runs
pc2-runs : (l : Link) → get_or l.at PC 0 ≡ ACTIVE → get_or l.at EM 0 ≡ IDLE → Named ground l PC2
unfolding runs ground_tables ground_watch
pc2-runs l p q = rw (p, q)

-- the desk's answer follows from demand 3 as it stands on the page: from less of it, it would not
follows : Timers → Desk
follows d s h before p q cs u n most reach octets =
    let on = pc2-runs (played s before) p q in
    let w = d.watched s h in
    let lt : PC2 < timers = lit< tt in
    d.expires s h octets before PC2 lt (get_or (played s before).left PC2 0) (w.at_least_one before PC2 lt on) refl cs u n most
    (omega (arith, w.no_more before PC2 lt on, reach))

pub desk : Desk
desk = follows timers-hold
