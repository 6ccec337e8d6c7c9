use Rattle.host_numbers.specs.ReportNumbers.{fix_numbers}
use Rattle.host_numbers.proofs.downlink.flat_urgent.Goals as goal

pub returns : goal.returns
unfolding fix_numbers
returns c = cc
