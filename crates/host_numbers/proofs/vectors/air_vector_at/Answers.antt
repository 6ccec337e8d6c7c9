use Rattle.host_numbers.specs.VectorNumbers.{air_vector_at}
use Rattle.host_numbers.proofs.vectors.air_vector_at.Goals as goal

pub returns : goal.returns
unfolding air_vector_at
returns c = cc
