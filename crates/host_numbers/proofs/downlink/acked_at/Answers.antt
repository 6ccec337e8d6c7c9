use Rattle.host_numbers.specs.DownlinkNumbers.{acked_at}
use Rattle.host_numbers.proofs.downlink.acked_at.Goals as goal

pub returns : goal.returns
unfolding acked_at
returns c = cc
