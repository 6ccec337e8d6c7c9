-- A log is a list of blocks, and a block has records. What a record is, is a parameter: its octets, how one is read at the front of a payload, and what is added to a block's number.
use Rattle.std.specs.Prelude.{◌≡◌, List, [], ◌∷◌, ◌++◌, ℕ, zero, suc, ◌+◌, ◌≤◌, ◌<◌, eqb, leb, ltb, length}
use Rattle.refusals.specs.Refusals.{NOT-READABLE}
use Rattle.link.specs.Tests.{pick}
use Rattle.octets.specs.Octets.{Octets}
use Rattle.log_blocks.specs.Block.{ROOM, BLOCKS, block_of, judged, payload}

-- an answer, or the number of a refusal
pub data Read (A : Type 0) : Type 0 where
  got : A → Read A
  bad : ℕ → Read A

-- what stands at the front of a payload: a record and what follows it, nothing, or what is not readable
pub data One (R : Type 0) : Type 0 where
  one : R → List ℕ → One R
  none : One R
  cut : One R

pub record Form (R : Type 0) : Type 0 where
  pub top : ℕ
  pub octets : R → List ℕ
  pub first : List ℕ → One R

-- what a form has to meet, for the records that are `good`
pub record Lawful {R : Type 0} (F : Form R) (good : R → Type 0) : Type 0 where
  pub some : (r : R) → good r → 0 < length (F.octets r)
  pub room : (r : R) → good r → length (F.octets r) ≤ ROOM
  pub bytes : (r : R) → good r → Octets (F.octets r)
  pub there : (r : R) (rest : List ℕ) → good r → F.first (F.octets r ++ rest) ≡ one r rest
  pub empty : F.first [] ≡ none
  pub shorter : (p rest : List ℕ) (r : R) → F.first p ≡ one r rest → length rest < length p
  pub done : (p : List ℕ) → F.first p ≡ none → p ≡ []
  pub back : (p rest : List ℕ) (r : R) → Octets p → F.first p ≡ one r rest → good r × (p ≡ F.octets r ++ rest)

-- every element is such
abbrev pub All : {R : Type 0} → (R → Type 0) → List R → Type 0
All P [] = Unit {0}
All P (r ∷ rs) = P r × All P rs

module _ {R : Type 0} (F : Form R) where
  abbrev pub joined : List R → List ℕ
  joined [] = []
  joined (r ∷ rs) = F.octets r ++ joined rs

  -- ---- "A record that doesn't fit opens the next block." The payload of block n is p so far
  abbrev pub pack_from : ℕ → List ℕ → List R → List (List ℕ)
  pack_from n p [] = block_of (F.top + n) p ∷ []
  pack_from n p (r ∷ rs) =
      pick (leb (length p + length (F.octets r)) ROOM) (pack_from n (p ++ F.octets r) rs)
      (block_of (F.top + n) p ∷ pack_from (n + 1) (F.octets r) rs)

  -- no record: no block
  abbrev pub pack : List R → List (List ℕ)
  pack [] = []
  pack (r ∷ rs) = pack_from 0 (F.octets r) rs

  -- a log has at most 2^24 blocks: the records before the one that would open another
  abbrev pub held_from : ℕ → List ℕ → List R → List R
  held_from n p [] = []
  held_from n p (r ∷ rs) =
      pick (leb (length p + length (F.octets r)) ROOM) (r ∷ held_from n (p ++ F.octets r) rs)
      (pick (ltb (n + 1) BLOCKS) (r ∷ held_from (n + 1) (F.octets r) rs) [])

  abbrev pub held : List R → List R
  held [] = []
  held (r ∷ rs) = r ∷ held_from 0 (F.octets r) rs

abbrev pub onto : {R : Type 0} → R → Read (List R) → Read (List R)
onto r (got rs) = got (r ∷ rs)
onto r (bad e) = bad e

abbrev pub then : {R : Type 0} → One R → (List ℕ → Read (List R)) → Read (List R)
then (one r rest) f = onto r (f rest)
then none f = got []
then cut f = bad NOT-READABLE

-- the records of a payload, of which there are at most as many as the first number says
abbrev pub records_in : {R : Type 0} → Form R → ℕ → List ℕ → Read (List R)
records_in F zero p = pick (eqb (length p) 0) (got []) (bad NOT-READABLE)
records_in F (suc k) p = then (F.first p) (records_in F k)

-- a block's own refusal comes before those of its records
abbrev pub unless : {A : Type 0} → ℕ → Read A → Read A
unless zero a = a
unless (suc e) a = bad (suc e)

-- and that of a block before those of the blocks behind it
abbrev pub beside : {R : Type 0} → Read (List R) → Read (List R) → Read (List R)
beside (got xs) (got ys) = got (xs ++ ys)
beside (got xs) (bad e) = bad e
beside (bad e) y = bad e

module _ {R : Type 0} (F : Form R) where
  unfoldable pub records_of : List ℕ → Read (List R)
  records_of p = records_in F (length p) p

  -- the records of block n
  unfoldable pub read_block : ℕ → List ℕ → Read (List R)
  read_block n b = unless (judged F.top n b) (records_of (payload b))

  -- the records of the blocks from number n on
  abbrev pub read_from : ℕ → List (List ℕ) → Read (List R)
  read_from n [] = got []
  read_from n (b ∷ bs) = beside (read_block n b) (read_from (n + 1) bs)

  abbrev pub unpack : List (List ℕ) → Read (List R)
  unpack bs = read_from 0 bs
