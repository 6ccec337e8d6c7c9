-- The states of an end, by whether it has its settings. Assumes nothing.
use mathlib.Core.Path.{◌≡◌, refl}
use mathlib.Core.Bool.{Bool, true, false}
use mathlib.Core.List.{List, ◌++◌}
use Prim.Native.Nat.{ℕ}
use Rattle.text.specs.Text.{pick}

pub named : (b : Bool) (name x y : List ℕ) → name ++ pick b x y ≡ pick b (name ++ x) (name ++ y)
named true name x y = refl
named false name x y = refl
