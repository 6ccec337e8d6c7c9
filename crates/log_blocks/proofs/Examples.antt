-- A few octets worked out by hand elsewhere. Assumes nothing.
use mathlib.Core.Path.{◌≡◌, refl}
use mathlib.Core.List.{[], ◌∷◌}
use lib.ListN.{length}
use Rattle.octets.specs.Octets.{pair_at, zeros}
use Rattle.log_blocks.specs.Block.{check_of, front_of, block_of}
use Rattle.log_blocks.specs.Log.{joined, pack}
use Rattle.log_blocks.specs.Record.{Rec, rec, rec_octets, form_one}

settings : Rec
settings = rec 0 0 (0 ∷ 1 ∷ 2 ∷ 3 ∷ 4 ∷ 5 ∷ 6 ∷ 7 ∷ 8 ∷ 9 ∷ 10 ∷ 11 ∷ 12 ∷ 13 ∷ 14 ∷ 15 ∷ 16 ∷ 17 ∷ 18 ∷ 19 ∷ 20 ∷ 21 ∷ 22 ∷ 23 ∷ 24 ∷ 25 ∷ 26 ∷ 27 ∷ 28 ∷ 29 ∷ 30 ∷ 31 ∷ 32 ∷ 33 ∷ 34 ∷ 35 ∷ [])

elapse : Rec
elapse = rec 9 86400 []

spelt : rec_octets elapse ≡ 9 ∷ 0 ∷ 1 ∷ 81 ∷ 128 ∷ 0 ∷ []
unfolding elapse
spelt = refl

check-of-none : check_of (zeros 510) ≡ 1
unfolding check_of
check-of-none = refl

check-of-two : pair_at (block_of 7 (joined form_one (settings ∷ elapse ∷ []))) 510 ≡ 35337
unfolding settings elapse block_of front_of check_of
check-of-two = refl

one_block : length (pack form_one (settings ∷ elapse ∷ elapse ∷ [])) ≡ 1
unfolding settings elapse
one_block = refl
