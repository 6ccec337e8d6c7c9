-- What follows of the cases that a call meets: what is made of a reading. Assumes nothing.
use mathlib.Core.Path.{◌≡◌, refl, sym, ap, ◌∙◌}
use mathlib.Core.Bool.{Bool, true, false}
use mathlib.Core.List.{[], ◌∷◌}
use Prim.Native.Nat.{ℕ}
use types.Run.{OneOf, miss}
use denote.Enum.Declared.{tag_of}
use lib.Dec.{eqb}
use Rattle.per.specs.Pdu.{got}
use Rattle.pdu.specs.contracts.uplink.Ground.{the_type}
use Rattle.pdu.specs.declared.uplink.Ground.{Ground}
use Rattle.pdu.specs.declared.uplink.Ground.TheVariants.{CancelAll, CancelContract, CancelEmergencyAck, DemandContract, EventContract, ModifyEmergency, PeriodicContract, Abort}
use Rattle.pdu.specs.UplinkTable.{ground_tag}
use Rattle.air_answer.specs.declared.record.AirLink.{AirLink}
use Rattle.air_answer.specs.Events.{uplink_event, may_come}
use Rattle.air_answer.specs.Aborts.{aborted}
use Rattle.air.specs.Arrivals.{passed, taken}

-- what reads well passes where it may come, and is abort 2 where not
module _ (l : AirLink) (k : ℕ) (g : Ground) {e : ℕ} {may : Bool} (is : e ≡ uplink_event g) (test : may ≡ may_come k e) where
  comes : may_come k (uplink_event g) ≡ may
  comes = ap (may_come k) (sym is) ∙ sym test

  pub taken-on : may ≡ true → passed l k e ≡ taken l k (got g)
  unfolding taken
  taken-on t = rw (comes ∙ t) (ap (passed l k) is)

  pub taken-off : may ≡ false → aborted l 2 ≡ taken l k (got g)
  unfolding taken
  taken-off t = rw (comes ∙ t)

-- a PDU of any index but 0 is no cancel-all
pub no_cancel_all : (g : Ground) → OneOf (1 ∷ 2 ∷ 3 ∷ 4 ∷ 5 ∷ 6 ∷ 7 ∷ []) (tag_of the_type g) → eqb (ground_tag g) 0 ≡ false
no_cancel_all CancelAll k = absurd (miss (1 ∷ 2 ∷ 3 ∷ 4 ∷ 5 ∷ 6 ∷ 7 ∷ []) 0 tt k)
no_cancel_all (CancelContract n) k = refl
no_cancel_all CancelEmergencyAck k = refl
no_cancel_all (DemandContract v) k = refl
no_cancel_all (EventContract v) k = refl
no_cancel_all (ModifyEmergency i) k = refl
no_cancel_all (PeriodicContract a) k = refl
no_cancel_all (Abort n) k = refl
