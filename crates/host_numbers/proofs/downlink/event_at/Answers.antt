use Rattle.host_numbers.specs.DownlinkNumbers.{event_at}
use Rattle.host_numbers.proofs.downlink.event_at.Goals as goal

pub returns : goal.returns
unfolding event_at
returns c = cc
