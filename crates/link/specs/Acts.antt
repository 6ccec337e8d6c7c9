-- "An action list has at most 8 entries": the actions in order, and zeros.
use Rattle.std.specs.Prelude.{Bool, List, [], ◌∷◌, ◌++◌, ℕ, ◌+◌, ◌-◌, ltb, length, set, replicate}
use Rattle.link.specs.Tests.{pick}
use Rattle.link.specs.declared.acts.Acts.{Acts}

unfoldable pub acts : List ℕ → Acts
acts l = record { n = length l; list = l ++ replicate (8 - length l) 0 }

unfoldable pub pushed : Acts → ℕ → Acts
pushed a x = pick (ltb a.n 8) (record { n = a.n + 1; list = set a.list a.n x }) a

-- one after the other
unfoldable pub pushed_all : Acts → List ℕ → Acts
pushed_all a [] = a
pushed_all a (x ∷ xs) = pushed_all (pushed a x) xs

-- an entry that is there or not
abbrev pub one : Bool → ℕ → List ℕ
one there x = pick there (x ∷ []) []
