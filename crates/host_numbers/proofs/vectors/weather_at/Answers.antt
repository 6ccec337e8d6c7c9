use Rattle.host_numbers.specs.VectorNumbers.{weather_at}
use Rattle.host_numbers.proofs.vectors.weather_at.Goals as goal

pub returns : goal.returns
unfolding weather_at
returns c = cc
