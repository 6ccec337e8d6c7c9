use Rattle.host_numbers.specs.DownlinkNumbers.{air_at}
use Rattle.host_numbers.proofs.downlink.air_at.Goals as goal

pub returns : goal.returns
unfolding air_at
returns c = cc
