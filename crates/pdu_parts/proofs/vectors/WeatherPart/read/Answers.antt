use Rattle.per.proofs.Compose.{then, by, like}
use Rattle.pdu_parts.specs.Vectors.{weather_c}
use Rattle.pdu_parts.proofs.vectors.WeatherPart.read.Goals as goal

pub returns : goal.returns
unfolding weather_c
returns c = like _ _ _ _ (by _ c.mask-bits.ensures (then (rw c.present.ensures at c.num_if-speed.ensures) (then (rw c.present-2.ensures at c.num_if-direction.ensures) (then (rw c.present-3.ensures at c.read_if-temperature.ensures) (rw c.present-4.ensures at c.num_if-turbulence.ensures)))))
