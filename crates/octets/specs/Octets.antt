-- Numbers below 2^32 in four octets and below 2^16 in two, the most significant octet first; and runs of octets.
use Rattle.std.specs.Prelude.{List, [], ◌∷◌, ℕ, zero, suc, ◌+◌, ◌*◌, ◌/◌, ◌%◌, ◌<◌, get_or, replicate}

-- each is an octet
abbrev pub Octets : List ℕ → Type 0
Octets s = (k : ℕ) → get_or s k 0 < 256

abbrev pub zeros : ℕ → List ℕ
zeros n = replicate n 0

abbrev pub pair : ℕ → List ℕ
pair n = n / 256 ∷ n % 256 ∷ []

abbrev pub quad : ℕ → List ℕ
quad w = w / 16777216 ∷ w / 65536 % 256 ∷ w / 256 % 256 ∷ w % 256 ∷ []

-- one after another
abbrev pub quads : List ℕ → List ℕ
quads [] = []
quads (w ∷ ws) = w / 16777216 ∷ w / 65536 % 256 ∷ w / 256 % 256 ∷ w % 256 ∷ quads ws

-- and back; octets that are not there are 0
abbrev pub pair_at : List ℕ → ℕ → ℕ
pair_at s i = get_or s i 0 * 256 + get_or s (i + 1) 0

abbrev pub word_at : List ℕ → ℕ → ℕ
word_at s i = ((get_or s i 0 * 256 + get_or s (i + 1) 0) * 256 + get_or s (i + 2) 0) * 256 + get_or s (i + 3) 0

abbrev pub words : List ℕ → ℕ → ℕ → List ℕ
words s i zero = []
words s i (suc n) = word_at s i ∷ words s (i + 4) n
