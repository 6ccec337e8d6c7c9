-- Text by its letters.
use Rattle.std.specs.Prelude.{List, [], ◌∷◌, ℕ}
use Prim.Native.Char.{code}
use Prim.Native.String.{String, [] as empty, ◌∷◌ as ◌before◌}

-- the octets of a text
abbrev pub ascii : String → List ℕ
ascii empty = []
ascii (c before s) = code c ∷ ascii s
