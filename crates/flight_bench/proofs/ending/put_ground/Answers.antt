use Rattle.text.specs.Letters.{ascii}
use Rattle.flight_bench.specs.Endings.{states_of, ground_names, ground_states}
use Rattle.flight_bench.proofs.Endings.{named}
use Rattle.flight_bench.proofs.ending.put_ground.Goals as goal

pub returns : goal.returns
unfolding ground_states
returns c = rw (named c.args.s.ready (ascii "ground") (states_of ground_names c.args.s.link.at) (ascii " not set\n")) at c.put_end.ensures
