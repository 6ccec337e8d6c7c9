use Rattle.host_numbers.specs.ReportNumbers.{fix_numbers, flat_report}
use Rattle.host_numbers.proofs.reports.flat_report.Goals as goal

pub returns : goal.returns
unfolding fix_numbers flat_report
returns c = rw (c.with_weather.ensures, c.with_air.ensures, c.with_ground.ensures, c.flat_fix-f.ensures)
