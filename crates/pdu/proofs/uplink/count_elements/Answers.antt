use native.Mathlib.Omega.{arith}
use Rattle.pdu.specs.ElementCount.{element_count}
use Rattle.pdu_parts.proofs.Counting.{count-is}
use Rattle.std.proofs.Common.{rules}
use Rattle.pdu.proofs.uplink.count_elements.Goals as goal

pub returns-in-CancelAll : goal.returns-in-CancelAll
unfolding element_count
returns-in-CancelAll c = search rules

pub returns-in-CancelContract : goal.returns-in-CancelContract
unfolding element_count
returns-in-CancelContract c = search rules

pub returns-in-CancelEmergencyAck : goal.returns-in-CancelEmergencyAck
unfolding element_count
returns-in-CancelEmergencyAck c = search rules

pub returns-in-DemandContract : goal.returns-in-DemandContract
unfolding element_count
returns-in-DemandContract c = rw c.in-DemandContract.is (count-is _ (omega arith))

pub returns-in-EventContract : goal.returns-in-EventContract
unfolding element_count
returns-in-EventContract c = rw c.in-EventContract.is (count-is _ (omega arith))

pub returns-in-ModifyEmergency : goal.returns-in-ModifyEmergency
unfolding element_count
returns-in-ModifyEmergency c = search rules

pub returns-in-PeriodicContract : goal.returns-in-PeriodicContract
unfolding element_count
returns-in-PeriodicContract c = rw c.in-PeriodicContract.is c.count_periodic.ensures

pub returns-in-Abort : goal.returns-in-Abort
unfolding element_count
returns-in-Abort c = search rules
