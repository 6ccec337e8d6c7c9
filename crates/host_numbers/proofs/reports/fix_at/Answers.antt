use Rattle.host_numbers.specs.ReportNumbers.{fix_at}
use Rattle.host_numbers.proofs.reports.fix_at.Goals as goal

pub returns : goal.returns
unfolding fix_at
returns c = cc
