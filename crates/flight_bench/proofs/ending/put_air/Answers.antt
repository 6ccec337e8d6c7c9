use Rattle.text.specs.Letters.{ascii}
use Rattle.flight_bench.specs.Endings.{states_of, air_names, air_states}
use Rattle.flight_bench.proofs.Endings.{named}
use Rattle.flight_bench.proofs.ending.put_air.Goals as goal

pub returns : goal.returns
unfolding air_states
returns c = rw (named c.args.s.ready (ascii "air") (states_of air_names c.args.s.link.at) (ascii " not set\n")) at c.put_end.ensures
