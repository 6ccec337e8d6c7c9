use Rattle.per.proofs.Compose.{after-ext, in-alt}
use mathlib.Core.Path.{◌≡◌}
use Rattle.std.proofs.Common.{rules}
use Rattle.pdu.specs.declared.downlink.Air.TheVariants.{Demand}
use Rattle.pdu.specs.DownlinkTable.{bare_air, air_alt}
use Rattle.pdu.proofs.downlink.read_demand.Goals as goal

pub returns : goal.returns
unfolding air_alt
returns c = let v : c.plain.result.value ≡ bare_air (Demand c.read.result.value) = search rules in rw (v, c.plain.ensures.next) (in-alt _ _ _ _ _ _ (after-ext c.extension.ensures c.read.ensures))
