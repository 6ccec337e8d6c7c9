use mathlib.Core.Path.{◌≡◌}
use lib.ListN.{replicate}
use lib.Seq.{sets}
use Rattle.link.specs.Names.{timers}
use Rattle.octets.specs.Octets.{words}
use Rattle.host_record.proofs.record.words_in.Given as goal

abbrev pub invariant-loop-i : goal.invariant-loop-i
invariant-loop-i l = l.w-items ≡ sets (replicate timers 0) 0 (words l.s l.at l.i)
