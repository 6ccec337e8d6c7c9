use Rattle.pdu_parts.proofs.SpanLaws.{fix-read}
use Rattle.pdu_parts.proofs.report.read_fix.Goals as goal

pub returns : goal.returns
returns c = rw c.with_seconds.ensures (fix-read c.take-lat.ensures c.take-lon.ensures c.signed-level.ensures c.take-date.ensures c.num_if-seconds.ensures c.take-merit.ensures c.if-merit-ne0.false c.angle_in-latitude.ensures c.angle_in-longitude.ensures c.time_in-start.ensures c.merit_in.ensures c.fix_fits.ensures c.if-not-fix_fits.false)
