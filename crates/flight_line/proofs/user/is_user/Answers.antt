use Rattle.flight_line.specs.Users.{is_user}
use lib.Seq.{length-take-le}
use mathlib.Core.Path.{sym}
use Rattle.flight_line.proofs.user.is_user.Goals as goal

pub slice_bounds-find-end : goal.slice_bounds-find-end
slice_bounds-find-end c = sym (length-take-le _ _ c.word_end-e.ensures.within)

pub returns : goal.returns
unfolding is_user
returns c = rw (c.find-k.ensures, c.word_end-e.ensures.is)
