use mathlib.Core.Path.{◌≡◌}
use lib.ListN.{drop}
use Rattle.text.specs.Words.{words_of, found_from}
use Rattle.text.proofs.words.find.Given as goal

abbrev pub invariant-loop-n : goal.invariant-loop-n
invariant-loop-n l = found_from l.n l.w (drop l.n (words_of l.text l.begins)) ≡ found_from 0 l.w (words_of l.text l.begins)
