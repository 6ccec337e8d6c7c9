use Rattle.flight_line.specs.Boths.{both_hear, both_with}
use Rattle.flight_line.proofs.both.hear_both.Goals as goal

pub returns : goal.returns
unfolding both_hear both_with
returns c = rw (← c.turn_ground-t.ensures, ← c.no_list.ensures, ← c.turn_air-u.ensures)
