-- Intervals as they read back. Assumes nothing.
use mathlib.Core.Path.{◌≡◌, refl}
use Rattle.per.specs.Formats.{field, dep, via, alt_codec, choice}
use Rattle.pdu_parts.specs.declared.interval.Interval.{Interval}
use Rattle.pdu_parts.specs.declared.interval.Interval.TheVariants.{Seconds, Minutes}
use Rattle.pdu_parts.specs.Interval.{interval_c}

-- no part of an interval is absent
pub interval-norm : (i : Interval) → interval_c.norm i ≡ i
unfolding interval_c choice via dep field alt_codec
interval-norm (Seconds n) = refl
interval-norm (Minutes n) = refl
