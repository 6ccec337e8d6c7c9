use mathlib.Core.Path.{refl}
use Rattle.per.proofs.Inks.{inks-choice, inks-alt}
use Rattle.pdu_parts.specs.Interval.{interval_c}
use Rattle.pdu_parts.proofs.interval.IntervalPart.write.Goals as goal

pub returns-in-Seconds : goal.returns-in-Seconds
unfolding interval_c
returns-in-Seconds c = rw c.in-Seconds.is (inks-choice _ _ _ c.index-p.ensures (inks-alt _ _ _ _ _ _ refl c.num.ensures))

pub returns-in-Minutes : goal.returns-in-Minutes
unfolding interval_c
returns-in-Minutes c = rw c.in-Minutes.is (inks-choice _ _ _ c.index-p-in-Minutes.ensures (inks-alt _ _ _ _ _ _ refl c.num-in-Minutes.ensures))
