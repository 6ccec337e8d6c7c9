use Rattle.host_numbers.specs.ReportNumbers.{report_at}
use Rattle.host_numbers.proofs.reports.report_at.Goals as goal

pub returns : goal.returns
unfolding report_at
returns c = cc
