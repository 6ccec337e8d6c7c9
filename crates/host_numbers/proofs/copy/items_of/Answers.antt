use Rattle.host_numbers.specs.Numbers.{items_of}
use Rattle.host_numbers.proofs.copy.items_of.Goals as goal

pub returns : goal.returns
unfolding items_of
returns c = c.copy_into.ensures
