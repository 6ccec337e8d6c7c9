use Rattle.host_numbers.specs.DownlinkNumbers.{flat_air}
use Rattle.host_numbers.proofs.downlink.flat_air.Goals as goal

pub returns-in-CancelEmergency : goal.returns-in-CancelEmergency
unfolding flat_air
returns-in-CancelEmergency c = rw c.in-CancelEmergency.is c.few_of.ensures

pub returns-in-Demand : goal.returns-in-Demand
unfolding flat_air
returns-in-Demand c = rw c.in-Demand.is c.flat_acked.ensures

pub returns-in-Emergency : goal.returns-in-Emergency
unfolding flat_air
returns-in-Emergency c = rw c.in-Emergency.is c.flat_urgent.ensures

pub returns-in-Event : goal.returns-in-Event
unfolding flat_air
returns-in-Event c = rw c.in-Event.is c.flat_event.ensures

pub returns-in-Negative : goal.returns-in-Negative
unfolding flat_air
returns-in-Negative c = rw c.in-Negative.is c.few_of-in-Negative.ensures

pub returns-in-Noncompliance : goal.returns-in-Noncompliance
unfolding flat_air
returns-in-Noncompliance c = rw c.in-Noncompliance.is c.few_of-in-Noncompliance.ensures

pub returns-in-Periodic : goal.returns-in-Periodic
unfolding flat_air
returns-in-Periodic c = rw c.in-Periodic.is c.flat_acked-in-Periodic.ensures

pub returns-in-Positive : goal.returns-in-Positive
unfolding flat_air
returns-in-Positive c = rw c.in-Positive.is c.few_of-in-Positive.ensures

pub returns-in-Abort : goal.returns-in-Abort
unfolding flat_air
returns-in-Abort c = rw c.in-Abort.is c.few_of-in-Abort.ensures
