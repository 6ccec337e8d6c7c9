use Rattle.per.proofs.Compose.{after-ext, in-alt}
use mathlib.Core.Path.{◌≡◌}
use Rattle.std.proofs.Common.{rules}
use Rattle.pdu.specs.declared.downlink.Air.TheVariants.{Noncompliance}
use Rattle.pdu.specs.DownlinkTable.{air_alt}
use Rattle.pdu.proofs.downlink.read_unmet.Goals as goal

pub returns : goal.returns
unfolding air_alt
returns c = let v : c.map.result.value ≡ record { kind = Noncompliance c.read.result.value.0; list = c.read.result.value.1 } = search rules in rw (v, c.map.ensures.next) (in-alt _ _ _ _ _ _ (after-ext c.extension.ensures c.read.ensures))
