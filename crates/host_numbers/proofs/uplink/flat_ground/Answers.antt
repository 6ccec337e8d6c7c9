use Rattle.host_numbers.specs.UplinkNumbers.{flat_ground}
use Rattle.host_numbers.proofs.uplink.flat_ground.Goals as goal

pub returns-in-CancelAll : goal.returns-in-CancelAll
unfolding flat_ground
returns-in-CancelAll c = rw c.in-CancelAll.is c.pair.ensures

pub returns-in-CancelContract : goal.returns-in-CancelContract
unfolding flat_ground
returns-in-CancelContract c = rw c.in-CancelContract.is c.pair-in-CancelContract.ensures

pub returns-in-CancelEmergencyAck : goal.returns-in-CancelEmergencyAck
unfolding flat_ground
returns-in-CancelEmergencyAck c = rw c.in-CancelEmergencyAck.is c.pair-in-CancelEmergencyAck.ensures

pub returns-in-DemandContract : goal.returns-in-DemandContract
unfolding flat_ground
returns-in-DemandContract c = rw c.in-DemandContract.is c.pair-in-DemandContract.ensures

pub returns-in-EventContract : goal.returns-in-EventContract
unfolding flat_ground
returns-in-EventContract c = rw c.in-EventContract.is c.flat_changes.ensures

pub returns-in-ModifyEmergency : goal.returns-in-ModifyEmergency
unfolding flat_ground
returns-in-ModifyEmergency c = rw c.in-ModifyEmergency.is c.flat_modify.ensures

pub returns-in-PeriodicContract : goal.returns-in-PeriodicContract
unfolding flat_ground
returns-in-PeriodicContract c = rw c.in-PeriodicContract.is c.flat_periodic.ensures

pub returns-in-Abort : goal.returns-in-Abort
unfolding flat_ground
returns-in-Abort c = rw c.in-Abort.is c.pair-in-Abort.ensures
