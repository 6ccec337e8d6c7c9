use Rattle.host_numbers.specs.VectorNumbers.{ground_vector_at}
use Rattle.host_numbers.proofs.vectors.ground_vector_at.Goals as goal

pub returns : goal.returns
unfolding ground_vector_at
returns c = cc
