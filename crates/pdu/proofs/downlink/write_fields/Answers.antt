use mathlib.Core.Path.{refl}
use Rattle.per.proofs.Inks.{inks-alt, inks-ext, inks-none}
use Rattle.pdu.specs.DownlinkTable.{air_alt}
use Rattle.pdu.proofs.downlink.write_fields.Goals as goal

pub returns-in-CancelEmergency : goal.returns-in-CancelEmergency
unfolding air_alt
returns-in-CancelEmergency c = rw c.in-CancelEmergency.is (inks-alt _ _ _ _ _ _ refl (inks-none _ _ _ _))

pub returns-in-Demand : goal.returns-in-Demand
unfolding air_alt
returns-in-Demand c = rw c.in-Demand.is (inks-alt _ _ _ _ _ _ refl (inks-ext c.extension.ensures c.write.ensures))

pub returns-in-Emergency : goal.returns-in-Emergency
unfolding air_alt
returns-in-Emergency c = rw c.in-Emergency.is (inks-alt _ _ _ _ _ _ refl (inks-ext c.extension-in-Emergency.ensures c.write-in-Emergency.ensures))

pub returns-in-Event : goal.returns-in-Event
unfolding air_alt
returns-in-Event c = rw c.in-Event.is (inks-alt _ _ _ _ _ _ refl (inks-ext c.extension-in-Event.ensures c.write-in-Event.ensures))

pub returns-in-Negative : goal.returns-in-Negative
unfolding air_alt
returns-in-Negative c = rw c.in-Negative.is (inks-alt _ _ _ _ _ _ refl c.write-in-Negative.ensures)

pub returns-in-Noncompliance : goal.returns-in-Noncompliance
unfolding air_alt
returns-in-Noncompliance c = rw c.in-Noncompliance.is (inks-alt _ _ _ _ _ _ refl (inks-ext c.extension-in-Noncompliance.ensures c.write-in-Noncompliance.ensures))

pub returns-in-Periodic : goal.returns-in-Periodic
unfolding air_alt
returns-in-Periodic c = rw c.in-Periodic.is (inks-alt _ _ _ _ _ _ refl (inks-ext c.extension-in-Periodic.ensures c.write-in-Periodic.ensures))

pub returns-in-Positive : goal.returns-in-Positive
unfolding air_alt
returns-in-Positive c = rw c.in-Positive.is (inks-alt _ _ _ _ _ _ refl (inks-ext c.extension-in-Positive.ensures c.num.ensures))

pub returns-in-Abort : goal.returns-in-Abort
unfolding air_alt
returns-in-Abort c = rw c.in-Abort.is (inks-alt _ _ _ _ _ _ refl (inks-ext c.extension-in-Abort.ensures c.num-in-Abort.ensures))
