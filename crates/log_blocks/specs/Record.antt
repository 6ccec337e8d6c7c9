-- L6: "A record is call kind (1 octet ..), seconds (4 ..), data length (1), data". What the kinds are, and what each call uses, `log_play` says.
use Rattle.std.specs.Prelude.{Bool, List, ◌∷◌, ℕ, ◌+◌, ◌/◌, ◌%◌, ◌≤◌, ◌<◌, eqb, leb, length, get_or, take, drop}
use Rattle.link.specs.Tests.{both, pick}
use Rattle.octets.specs.Octets.{word_at, Octets}
use Rattle.log_blocks.specs.Log.{Form, One, one, none, cut}

pub record Rec : Type 0 where
  pub kind : ℕ
  pub seconds : ℕ
  pub octets : List ℕ

abbrev pub rec : ℕ → ℕ → List ℕ → Rec
rec k s d = record { kind = k; seconds = s; octets = d }

-- "Of longer data the first 129 octets are kept"
abbrev pub KEPT : ℕ
KEPT = 129

abbrev pub noted : Rec → Rec
noted r = rec r.kind r.seconds (take KEPT r.octets)

-- a call as it is made
pub record Call (r : Rec) : Type 0 where
  pub kind : r.kind < 256
  pub seconds : r.seconds < 4294967296
  pub octets : Octets r.octets

-- and as it is kept
pub record Good (r : Rec) : Type 0 where
  pub kind : r.kind < 256
  pub seconds : r.seconds < 4294967296
  pub short : length r.octets ≤ KEPT
  pub octets : Octets r.octets

abbrev pub rec_octets : Rec → List ℕ
rec_octets r =
    r.kind ∷ r.seconds / 16777216 ∷ r.seconds / 65536 % 256 ∷ r.seconds / 256 % 256 ∷ r.seconds % 256 ∷ length r.octets ∷ r.octets

-- ---- reading: each ground of 20 is a test that fails
-- cut short before its data
abbrev pub head_there : List ℕ → Bool
head_there p = leb 6 (length p)

-- wrong length: more data than is kept
abbrev pub data_short : List ℕ → Bool
data_short p = leb (get_or p 5 0) KEPT

-- cut short in its data
abbrev pub data_there : List ℕ → Bool
data_there p = leb (6 + get_or p 5 0) (length p)

unfoldable pub readable : List ℕ → Bool
readable p = both (head_there p) (both (data_short p) (data_there p))

unfoldable pub rec_first : List ℕ → One Rec
rec_first p =
    pick (eqb (length p) 0) none
    (pick (readable p) (one (rec (get_or p 0 0) (word_at p 1) (take (get_or p 5 0) (drop 6 p))) (drop (6 + get_or p 5 0) p)) cut)

-- form one has 0 in the top octet of the block number (L11)
abbrev pub form_one : Form Rec
form_one = record { top = 0; octets = rec_octets; first = rec_first }
