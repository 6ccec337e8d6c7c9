-- How long a new buffer is. Assumes nothing.
use mathlib.Core.Path.{◌≡◌, ap, ◌∙◌}
use mathlib.Core.List.{List}
use Prim.Native.Nat.{ℕ}
use lib.ListN.{length, length-replicate}
use Rattle.script.specs.Rooms.{zeros}

pub room_of : (n : ℕ) {l : List ℕ} → l ≡ zeros n → length l ≡ n
unfolding zeros
room_of n e = ap length e ∙ length-replicate n 0
