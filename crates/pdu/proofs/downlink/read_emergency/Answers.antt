use Rattle.per.proofs.Compose.{after-ext, in-alt}
use mathlib.Core.Path.{◌≡◌}
use Rattle.std.proofs.Common.{rules}
use Rattle.pdu.specs.declared.downlink.Air.TheVariants.{Emergency}
use Rattle.pdu.specs.DownlinkTable.{bare_air, air_alt}
use Rattle.pdu.proofs.downlink.read_emergency.Goals as goal

pub returns : goal.returns
unfolding air_alt
returns c = let v : c.plain.result.value ≡ bare_air (Emergency c.read.result.value) = search rules in rw (v, c.plain.ensures.next) (in-alt _ _ _ _ _ _ (after-ext c.extension.ensures c.read.ensures))
