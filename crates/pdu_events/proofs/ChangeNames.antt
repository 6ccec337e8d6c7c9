-- An event contract is refused by 0 or the number of a refusal alone. Assumes nothing.
use Prim.Native.Nat.{ℕ}
use Rattle.per.proofs.Named.{Refuses, names}
use Rattle.pdu_events.specs.Changes.{level_range_c, either_c, changes_c}

range-named : Refuses level_range_c
unfolding level_range_c
range-named = search names depth 12

either-named : (first second : ℕ) → Refuses (either_c first second)
unfolding either_c
either-named first second = search names depth 12

pub changes-named : Refuses changes_c
unfolding changes_c
changes-named = search (names, range-named, either-named) depth 28
