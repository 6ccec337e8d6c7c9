use Rattle.flight_bench.proofs.Stands.{ending-stands}
use mathlib.Core.Path.{refl}
use mathlib.Core.List.{append-nil}
use Rattle.flight_bench.proofs.player.end_flight.Goals as goal

pub returns-then-p : goal.returns-then-p
returns-then-p c = rw c.if-p.true (record { failed_is = refl; text_is = rw append-nil })

pub returns : goal.returns
returns c = let well = c.if-p.false in
    rw well (ending-stands (c.requires well) c.put_states-a.ensures c.close.ensures)
