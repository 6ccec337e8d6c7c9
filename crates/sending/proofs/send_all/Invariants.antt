use Rattle.sending.specs.Ways.{way_of, sent_all}
use lib.ListN.{drop}
use mathlib.Core.Path.{◌≡◌}
use Rattle.sending.proofs.send_all.Given as goal

abbrev pub invariant-loop-c : goal.invariant-loop-c
invariant-loop-c l = sent_all l.up (way_of l.way) (drop l.c-index l.c-items) l.octets l.left ≡ sent_all l.up (way_of l.initial.way) l.c-items l.octets l.initial.left
