use borrow.Author.Tests.{eq-eqb, ne_eqb}
use Rattle.host_record.specs.RecordLayout.{link_of}
use Rattle.log_play.specs.Steps.{settings_of}
use Rattle.log_play.proofs.record.settings_in.Goals as goal

pub returns-then-octets-eq-OLD_SETTINGS : goal.returns-then-octets-eq-OLD_SETTINGS
unfolding settings_of link_of
returns-then-octets-eq-OLD_SETTINGS c = rw (eq-eqb _ 36 c.if-octets-eq-OLD_SETTINGS.true, c.load-l.ensures)

pub returns-else-octets-eq-OLD_SETTINGS : goal.returns-else-octets-eq-OLD_SETTINGS
unfolding settings_of link_of
returns-else-octets-eq-OLD_SETTINGS c = rw (ne_eqb _ 36 c.if-octets-eq-OLD_SETTINGS.false, c.load-l.ensures)
