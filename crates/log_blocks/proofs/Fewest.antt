-- Packing needs no more blocks than any log of the same records has, so that what reads may be packed anew. Assumes nothing.
use Prim.Native.Nat.{ℕ, ◌+◌, ◌≤◌, ◌<◌}
use mathlib.Core.Path.{◌≡◌, refl, sym, ap, ◌∙◌}
use mathlib.Core.Bool.{Bool, true, false}
use mathlib.Core.List.{List, [], ◌∷◌, ◌++◌, append_assoc, append-nil}
use native.Mathlib.Omega.{arith}
use borrow.Author.Tests.{le-leb, leb-true}
use lib.Dec.{leb}
use lib.ListN.{length, length-append}
use Rattle.link.specs.Tests.{pick}
use Rattle.octets.specs.Octets.{Octets}
use Rattle.log_blocks.specs.Block.{ROOM, BLOCKS, block_of}
use Rattle.log_blocks.specs.Log.{got, Form, Lawful, All, joined, pack_from, pack, read_block, read_from, unpack}
use Rattle.log_blocks.proofs.Blocks.{sound}
use Rattle.log_blocks.proofs.Packs.{beside-got, unless-got, packs-here, block_back, reads-good, unpack-pack}

module _ {R : Type 0} (F : Form R) where
  -- records that have room together stay in one block
  stays : (xs ys : List R) (n : ℕ) (p : List ℕ) → length p + length (joined F xs) ≤ ROOM → pack_from F n p (xs ++ ys) ≡ pack_from F n (p ++ joined F xs) ys
  stays [] ys n p h = ap (λ (l : List ℕ). pack_from F n l ys) (sym (append-nil p))
  stays (r ∷ xs) ys n p h =
      let e = length-append (F.octets r) (joined F xs) in
      let f = length-append p (F.octets r) in
      packs-here F n p r (xs ++ ys) (le-leb (length p + length (F.octets r)) ROOM (omega (arith, h, e)))
      ∙ stays xs ys n (p ++ F.octets r) (omega (arith, h, e, f))
      ∙ ap (λ (l : List ℕ). pack_from F n l ys) (append_assoc p (F.octets r) (joined F xs))

  -- the records of one block open at most one
  module _ (ys : List R) (most : ℕ) (rest : (q : List ℕ) (m : ℕ) → length q ≤ ROOM → length (pack_from F m q ys) ≤ most) where
    opens_one : (xs : List R) (n : ℕ) (p : List ℕ) → length p ≤ ROOM → length (joined F xs) ≤ ROOM → length (pack_from F n p (xs ++ ys)) ≤ 1 + most
    opens_one [] n p h k = omega (arith, rest p n h)
    opens_one (r ∷ xs) n p h k =
        go (leb (length p + length (F.octets r)) ROOM) refl (λ l. opens_one xs n (p ++ F.octets r) (omega (arith, length-append p (F.octets r), l)) (omega (arith, k, e)))
      where
        e : length (F.octets r ++ joined F xs) ≡ length (F.octets r) + length (joined F xs)
        e = length-append (F.octets r) (joined F xs)

        go : (c : Bool) → leb (length p + length (F.octets r)) ROOM ≡ c
            → (length p + length (F.octets r) ≤ ROOM → length (pack_from F n (p ++ F.octets r) (xs ++ ys)) ≤ 1 + most)
            → length (pick c (pack_from F n (p ++ F.octets r) (xs ++ ys)) (block_of (F.top + n) p ∷ pack_from F (n + 1) (F.octets r) (xs ++ ys))) ≤ 1 + most
        go true f i = i (leb-true _ _ f)
        go false f i =
            let s = stays xs ys (n + 1) (F.octets r) (omega (arith, k, e)) in
            omega (arith, ap length s, rest (F.octets r ++ joined F xs) (n + 1) k)

module _ {R : Type 0} (F : Form R) (good : R → Type 0) (L : Lawful F good) where
  fewest-from : (bs : List (List ℕ)) (m : ℕ) (rs : List R) → All Octets bs → read_from F m bs ≡ got rs
      → (p : List ℕ) (n : ℕ) → length p ≤ ROOM → length (pack_from F n p rs) ≤ 1 + length bs
  fewest-from [] m rs o e p n h = let f : rs ≡ [] = cc in omega (arith, ap (λ (l : List R). length (pack_from F n p l)) f)
  fewest-from (b ∷ bs) m rs o e p n h =
      let x = beside-got (read_block F m b) (read_from F (m + 1) bs) rs e in
      let xs = x.0 in
      let ys = x.1.0 in
      let k = block_back F good L m b xs o.0 x.1.1.0 in
      let i = opens_one F ys (1 + length bs) (fewest-from bs (m + 1) ys o.1 x.1.1.1.0) xs n p h k.1 in
      omega (arith, ap (λ (l : List R). length (pack_from F n p l)) x.1.1.1.1, i)

  -- a log of the same records has as many blocks at least
  pub fewest : (bs : List (List ℕ)) (m : ℕ) (rs : List R) → All Octets bs → read_from F m bs ≡ got rs → length (pack F rs) ≤ length bs
  fewest [] m rs o e = let f : rs ≡ [] = cc in omega (arith, ap (λ (l : List R). length (pack F l)) f)
  fewest (b ∷ bs) m rs o e =
      let x = beside-got (read_block F m b) (read_from F (m + 1) bs) rs e in
      let k = block_back F good L m b x.0 o.0 x.1.1.0 in
      omega (arith, ap (λ (l : List R). length (pack F l)) x.1.1.1.1, go x.0 x.1.0 k.1 (fewest bs (m + 1) x.1.0 o.1 x.1.1.1.0) (fewest-from bs (m + 1) x.1.0 o.1 x.1.1.1.0))
    where
      go : (xs ys : List R) → length (joined F xs) ≤ ROOM → length (pack F ys) ≤ length bs
          → ((p : List ℕ) (n : ℕ) → length p ≤ ROOM → length (pack_from F n p ys) ≤ 1 + length bs)
          → length (pack F (xs ++ ys)) ≤ 1 + length bs
      go [] ys h f g = omega (arith, f)
      go (r ∷ xs) ys h f g =
          let s = stays F xs ys 0 (F.octets r) (omega (arith, h, length-append (F.octets r) (joined F xs))) in
          omega (arith, ap length s, g (F.octets r ++ joined F xs) 0 h)

  read-due : (b : List ℕ) (n : ℕ) (rs : List R) → read_block F n b ≡ got rs → n < BLOCKS
  unfolding read_block
  read-due b n rs e = (sound F.top n b (unless-got _ _ rs e).0).due

  -- a log that reads has no block behind the last number
  pub reads-few : (bs : List (List ℕ)) (n : ℕ) (rs : List R) → n ≤ BLOCKS → read_from F n bs ≡ got rs → n + length bs ≤ BLOCKS
  reads-few [] n rs h e = omega (arith, h)
  reads-few (b ∷ bs) n rs h e =
      let x = beside-got (read_block F n b) (read_from F (n + 1) bs) rs e in
      let d = read-due b n x.0 x.1.1.0 in
      omega (arith, reads-few bs (n + 1) x.1.0 (omega (arith, d)) x.1.1.1.0)

  -- (c)
  pub pack-unpack : (bs : List (List ℕ)) (rs : List R) → All Octets bs → unpack F bs ≡ got rs → unpack F (pack F rs) ≡ got rs
  pack-unpack bs rs o e =
      unpack-pack F good L rs (reads-good F good L bs 0 rs o e) (omega (arith, fewest bs 0 rs o e, reads-few bs 0 rs (omega arith) e))
