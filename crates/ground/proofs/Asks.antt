-- What a request asks for is in range, and data asks for nothing. Assumes nothing.
use mathlib.Core.Path.{◌≡◌}
use mathlib.Core.Bool.{Bool, true, false}
use Prim.Native.Nat.{ℕ}
use lib.Dec.{T, eqb}
use borrow.Author.Tests.{eqb-true, le-leb}
use Rattle.link.specs.Tests.{pick}
use Rattle.pdu.specs.declared.uplink.Ground.{Ground}
use Rattle.pdu.specs.declared.uplink.Ground.TheVariants.{CancelAll, CancelContract, CancelEmergencyAck, DemandContract, EventContract, ModifyEmergency, PeriodicContract}
use Rattle.pdu.specs.declared.uplink.Ground as ground
use Rattle.pdu.specs.declared.downlink.Air.{Air}
use Rattle.pdu.specs.declared.downlink.Air.TheVariants.{CancelEmergency, Demand, Emergency, Event, Negative, Noncompliance, Periodic, Positive, Abort}
use Rattle.ground_tables.specs.Intervals.{INTERVAL-MOST}
use Rattle.ground_tables.proofs.KeptIntervals.{asks_well}
use Rattle.ground_answer.specs.Events.{request_event, cancel_event, asks_for, air_event, negative_event, positive_event, unmet_event}
use Rattle.ground_answer.specs.Sent.{outgoing}
use Rattle.ground_answer.proofs.Asking.{asks-within}

-- the choice between two events is well where both are
pick-well : (b : Bool) (x y n : ℕ) → T (asks_well x n) → T (asks_well y n) → T (asks_well (pick b x y) n)
pick-well true x y n p q = p
pick-well false x y n p q = q

pub asked-well : (g : Ground) → eqb (outgoing g).refusal 0 ≡ true → T (asks_well (request_event g) (asks_for g))
unfolding request_event asks_for cancel_event
asked-well CancelAll h = tt
asked-well (CancelContract n) h = pick-well (eqb n 0) 17 _ 0 tt (pick-well (eqb n 1) 33 64 0 tt tt)
asked-well CancelEmergencyAck h = tt
asked-well (DemandContract v) h = tt
asked-well (EventContract v) h = tt
asked-well (ModifyEmergency i) h = tt
asked-well (PeriodicContract a) h =
    let r = asks-within a (eqb-true _ 0 h) in
    rw (le-leb 1 _ r.0, le-leb _ INTERVAL-MOST r.1) tt
asked-well (ground.TheVariants.Abort n) h = tt

pub data-well : (a : Air) → T (asks_well (air_event a) 0)
unfolding air_event negative_event positive_event unmet_event
data-well CancelEmergency = tt
data-well (Demand a) = pick-well a.ack 4 5 0 tt tt
data-well (Emergency a) = pick-well a.ack 53 52 0 tt tt
data-well (Event a) = pick-well a.ack 20 21 0 tt tt
data-well (Negative a) = let n = a.request in pick-well (eqb n 0) 26 _ 0 tt (pick-well (eqb n 1) 42 _ 0 tt (pick-well (eqb n 2) 6 68 0 tt tt))
data-well (Noncompliance n) = pick-well (eqb n 0) 7 _ 0 tt (pick-well (eqb n 1) 24 _ 0 tt (pick-well (eqb n 2) 40 68 0 tt tt))
data-well (Periodic a) = pick-well a.ack 36 37 0 tt tt
data-well (Positive n) =
    pick-well (eqb n 0) 22 _ 0 tt
    (pick-well (eqb n 1) 38 _ 0 tt (pick-well (eqb n 3) 25 _ 0 tt (pick-well (eqb n 4) 41 _ 0 tt (pick-well (eqb n 5) 55 68 0 tt tt))))
data-well (Abort n) = tt
