-- The lists have the writer's own form alone, and are at most so long. Assumes nothing.
use Prim.Native.Nat.{ℕ}
use mathlib.Core.Bool.{Bool, true, false}
use lib.Dec.{lit≤}
use Rattle.per.specs.Bits.{width, width_in}
use Rattle.per.specs.Codec.{Within}
use Rattle.per.specs.Formats.{num_field}
use Rattle.per.proofs.Within.{forms}
use Rattle.per.proofs.Longest.{Most, up, a-field, a-like, a-list}
use Rattle.pdu_parts.specs.Lists.{listed, entry_c, names_c}

entry-own : (n : ℕ) (marked : Bool) (top : ℕ) → Within n (entry_c marked top)
unfolding entry_c
entry-own n true top = search forms
entry-own n false top = search forms

pub listed-own : (n m : ℕ) (marked : Bool) (top : ℕ) → Within n (listed m (entry_c marked top))
unfolding listed
listed-own n m marked top = search (forms, entry-own)

pub names-most : Most 904 names_c
unfolding listed entry_c width width_in
names-most = up (lit≤ tt) (a-like _ _ _ _ (a-list 8 (a-field (num_field 0 127))))
