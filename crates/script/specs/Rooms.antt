-- A new buffer.
use Rattle.std.specs.Prelude.{List, ℕ, replicate}

-- it has n octets, all 0
unfoldable pub zeros : ℕ → List ℕ
zeros n = replicate n 0
