use Rattle.host_numbers.specs.DownlinkNumbers.{urgent_at}
use Rattle.host_numbers.proofs.downlink.urgent_at.Goals as goal

pub returns : goal.returns
unfolding urgent_at
returns c = cc
