use mathlib.Core.Path.{refl}
use Rattle.per.proofs.Inks.{inks-alt, inks-ext, inks-none}
use Rattle.pdu.specs.UplinkTable.{ground_alt}
use Rattle.pdu.proofs.uplink.write_fields.Goals as goal

pub returns-in-CancelAll : goal.returns-in-CancelAll
unfolding ground_alt
returns-in-CancelAll c = rw c.in-CancelAll.is (inks-alt _ _ _ _ _ _ refl (inks-none _ _ _ _))

pub returns-in-CancelContract : goal.returns-in-CancelContract
unfolding ground_alt
returns-in-CancelContract c = rw c.in-CancelContract.is (inks-alt _ _ _ _ _ _ refl (inks-ext c.extension.ensures c.num.ensures))

pub returns-in-CancelEmergencyAck : goal.returns-in-CancelEmergencyAck
unfolding ground_alt
returns-in-CancelEmergencyAck c = rw c.in-CancelEmergencyAck.is (inks-alt _ _ _ _ _ _ refl (inks-none _ _ _ _))

pub returns-in-DemandContract : goal.returns-in-DemandContract
unfolding ground_alt
returns-in-DemandContract c = rw c.in-DemandContract.is (inks-alt _ _ _ _ _ _ refl (inks-ext c.extension-in-DemandContract.ensures c.mask.ensures))

pub returns-in-EventContract : goal.returns-in-EventContract
unfolding ground_alt
returns-in-EventContract c = rw c.in-EventContract.is (inks-alt _ _ _ _ _ _ refl (inks-ext c.extension-in-EventContract.ensures c.write.ensures))

pub returns-in-ModifyEmergency : goal.returns-in-ModifyEmergency
unfolding ground_alt
returns-in-ModifyEmergency c = rw c.in-ModifyEmergency.is (inks-alt _ _ _ _ _ _ refl c.write-in-ModifyEmergency.ensures)

pub returns-in-PeriodicContract : goal.returns-in-PeriodicContract
unfolding ground_alt
returns-in-PeriodicContract c = rw c.in-PeriodicContract.is (inks-alt _ _ _ _ _ _ refl (inks-ext c.extension-in-PeriodicContract.ensures c.write-in-PeriodicContract.ensures))

pub returns-in-Abort : goal.returns-in-Abort
unfolding ground_alt
returns-in-Abort c = rw c.in-Abort.is (inks-alt _ _ _ _ _ _ refl (inks-ext c.extension-in-Abort.ensures c.num-in-Abort.ensures))
