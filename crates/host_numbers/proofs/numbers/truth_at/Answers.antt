use Rattle.host_numbers.specs.Numbers.{truth}
use Rattle.host_numbers.proofs.numbers.truth_at.Goals as goal

pub returns : goal.returns
unfolding truth
returns c = rw c.number.ensures
