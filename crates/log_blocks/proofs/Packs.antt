-- Packing and reading, for any lawful form: what was packed is read, and what is read is packed so. Assumes nothing.
use Prim.Native.Nat.{ℕ, zero, suc, ◌+◌, ◌≤◌, ◌<◌}
use mathlib.Core.Path.{◌≡◌, refl, sym, ap, subst, ◌∙◌}
use mathlib.Core.Bool.{Bool, true, false}
use mathlib.Core.List.{List, [], ◌∷◌, ◌++◌, append_assoc, append-nil}
use native.Mathlib.Omega.{arith}
use borrow.Author.Tests.{lt-ltb, eqb-true, leb-true, ltb-true}
use lib.Dec.{eqb, leb, ltb}
use lib.ListN.{length, get_or, length-append}
use Rattle.refusals.specs.Refusals.{NOT-READABLE}
use Rattle.link.specs.Tests.{pick}
use Rattle.octets.specs.Octets.{Octets}
use Rattle.octets.specs.laws.Numbers.{there}
use Rattle.octets.specs.laws.Runs.{octets-append, octets-none}
use Rattle.log_blocks.specs.Block.{ROOM, BLOCKS, block_of, payload}
use Rattle.log_blocks.specs.Log.{Read, got, bad, One, one, none, cut, Form, Lawful, All, joined, pack_from, pack, held_from, held, onto, then, records_in, unless, beside, records_of, read_block, read_from, unpack}
use Rattle.log_blocks.proofs.Blocks.{block-bytes, judged-good, payload-at, sound, payload-long, octets-payload, block_is}

all_append : {R : Type 0} (P : R → Type 0) (xs ys : List R) → All P xs → All P ys → All P (xs ++ ys)
all_append P [] ys g h = h
all_append P (x ∷ xs) ys g h = (g.0, all_append P xs ys g.1 h)

-- ---- answers that are no refusals
onto-got : {R : Type 0} (r : R) (x : Read (List R)) (rs : List R) → onto r x ≡ got rs → (ys : List R) × ((x ≡ got ys) × (rs ≡ r ∷ ys))
onto-got r (got ys) rs e = (ys, (refl, cc))
onto-got r (bad n) rs e = let z : ◌≡◌ {A = ℕ} 0 1 = cc in absurd (omega arith)

pub unless-got : {A : Type 0} (n : ℕ) (x : Read A) (a : A) → unless n x ≡ got a → (n ≡ 0) × (x ≡ got a)
unless-got zero x a e = (refl, e)
unless-got (suc n) x a e = let z : ◌≡◌ {A = ℕ} 0 1 = cc in absurd (omega arith)

pub beside-got : {R : Type 0} (x y : Read (List R)) (rs : List R) → beside x y ≡ got rs
    → (xs : List R) × ((ys : List R) × ((x ≡ got xs) × ((y ≡ got ys) × (rs ≡ xs ++ ys))))
beside-got (got xs) (got ys) rs e = (xs, (ys, (refl, (refl, cc))))
beside-got (got xs) (bad n) rs e = let z : ◌≡◌ {A = ℕ} 0 1 = cc in absurd (omega arith)
beside-got (bad n) y rs e = let z : ◌≡◌ {A = ℕ} 0 1 = cc in absurd (omega arith)

module _ {R : Type 0} (F : Form R) where
  -- there is a last block
  pub packs-some : (rs : List R) (n : ℕ) (p : List ℕ) → 0 < length (pack_from F n p rs)
  packs-some [] n p = omega arith
  packs-some (r ∷ rs) n p = go (leb (length p + length (F.octets r)) 504) (packs-some rs n (p ++ F.octets r))
    where
      go : (c : Bool) → 0 < length (pack_from F n (p ++ F.octets r) rs)
          → 0 < length (pick c (pack_from F n (p ++ F.octets r) rs) (block_of (F.top + n) p ∷ pack_from F (n + 1) (F.octets r) rs))
      go true h = h
      go false h = omega arith

  -- ---- by whether the next record has room
  module _ (n : ℕ) (p : List ℕ) (r : R) (rs : List R) where
    pub packs-here : leb (length p + length (F.octets r)) ROOM ≡ true → pack_from F n p (r ∷ rs) ≡ pack_from F n (p ++ F.octets r) rs
    packs-here e = rw e

    pub packs-next : leb (length p + length (F.octets r)) ROOM ≡ false → pack_from F n p (r ∷ rs) ≡ block_of (F.top + n) p ∷ pack_from F (n + 1) (F.octets r) rs
    packs-next e = rw e

  -- ---- the records that a log has room for: all, if their blocks are not too many; and never too many
  held-from-all : (rs : List R) (n : ℕ) (p : List ℕ) → n + length (pack_from F n p rs) ≤ BLOCKS → held_from F n p rs ≡ rs
  held-from-all [] n p h = refl
  held-from-all (r ∷ rs) n p h =
      go (leb (length p + length (F.octets r)) ROOM) h (held-from-all rs n (p ++ F.octets r)) (held-from-all rs (n + 1) (F.octets r))
    where
      go : (c : Bool) → n + length (pick c (pack_from F n (p ++ F.octets r) rs) (block_of (F.top + n) p ∷ pack_from F (n + 1) (F.octets r) rs)) ≤ BLOCKS
          → (n + length (pack_from F n (p ++ F.octets r) rs) ≤ BLOCKS → held_from F n (p ++ F.octets r) rs ≡ rs)
          → (n + 1 + length (pack_from F (n + 1) (F.octets r) rs) ≤ BLOCKS → held_from F (n + 1) (F.octets r) rs ≡ rs)
          → pick c (r ∷ held_from F n (p ++ F.octets r) rs) (pick (ltb (n + 1) BLOCKS) (r ∷ held_from F (n + 1) (F.octets r) rs) []) ≡ r ∷ rs
      go true m f g = ap (λ (l : List R). r ∷ l) (f m)
      go false m f g =
          let l : n + 1 < BLOCKS = omega (arith, m, packs-some rs (n + 1) (F.octets r)) in
          rw (lt-ltb (n + 1) BLOCKS l, g (omega (arith, m)))

  pub held_all : (rs : List R) → length (pack F rs) ≤ BLOCKS → held F rs ≡ rs
  held_all [] h = refl
  held_all (r ∷ rs) h = ap (λ (l : List R). r ∷ l) (held-from-all rs 0 (F.octets r) (omega (arith, h)))

  held-from-fits : (rs : List R) (n : ℕ) (p : List ℕ) → n < BLOCKS → n + length (pack_from F n p (held_from F n p rs)) ≤ BLOCKS
  held-from-fits [] n p h = omega (arith, h)
  held-from-fits (r ∷ rs) n p h =
      go (leb (length p + length (F.octets r)) ROOM) refl (ltb (n + 1) BLOCKS) refl (held-from-fits rs n (p ++ F.octets r) h) (held-from-fits rs (n + 1) (F.octets r))
    where
      go : (c : Bool) → leb (length p + length (F.octets r)) ROOM ≡ c → (d : Bool) → ltb (n + 1) BLOCKS ≡ d
          → n + length (pack_from F n (p ++ F.octets r) (held_from F n (p ++ F.octets r) rs)) ≤ BLOCKS
          → (n + 1 < BLOCKS → n + 1 + length (pack_from F (n + 1) (F.octets r) (held_from F (n + 1) (F.octets r) rs)) ≤ BLOCKS)
          → n + length (pack_from F n p (pick c (r ∷ held_from F n (p ++ F.octets r) rs) (pick d (r ∷ held_from F (n + 1) (F.octets r) rs) []))) ≤ BLOCKS
      go true e d f g i = rw (packs-here n p r (held_from F n (p ++ F.octets r) rs) e) g
      go false e true f g i = rw (packs-next n p r (held_from F (n + 1) (F.octets r) rs) e) (omega (arith, i (ltb-true _ _ f)))
      go false e false f g i = omega (arith, h)

  pub held_fits : (rs : List R) → length (pack F (held F rs)) ≤ BLOCKS
  held_fits [] = omega arith
  held_fits (r ∷ rs) = omega (arith, held-from-fits rs 0 (F.octets r) (omega arith))

  held-from-such : (P : R → Type 0) (rs : List R) (n : ℕ) (p : List ℕ) → All P rs → All P (held_from F n p rs)
  held-from-such P [] n p g = tt
  held-from-such P (r ∷ rs) n p g =
      go (leb (length p + length (F.octets r)) ROOM) (ltb (n + 1) BLOCKS) (held-from-such P rs n (p ++ F.octets r) g.1) (held-from-such P rs (n + 1) (F.octets r) g.1)
    where
      go : (c d : Bool) → All P (held_from F n (p ++ F.octets r) rs) → All P (held_from F (n + 1) (F.octets r) rs)
          → All P (pick c (r ∷ held_from F n (p ++ F.octets r) rs) (pick d (r ∷ held_from F (n + 1) (F.octets r) rs) []))
      go true d f h = (g.0, f)
      go false true f h = (g.0, h)
      go false false f h = tt

  held-from-first : (rs : List R) (n : ℕ) (p : List ℕ) → (ys : List R) × (rs ≡ held_from F n p rs ++ ys)
  held-from-first [] n p = ([], refl)
  held-from-first (r ∷ rs) n p =
      go (leb (length p + length (F.octets r)) ROOM) (ltb (n + 1) BLOCKS) (held-from-first rs n (p ++ F.octets r)) (held-from-first rs (n + 1) (F.octets r))
    where
      go : (c d : Bool) → (ys : List R) × (rs ≡ held_from F n (p ++ F.octets r) rs ++ ys) → (ys : List R) × (rs ≡ held_from F (n + 1) (F.octets r) rs ++ ys)
          → (ys : List R) × (r ∷ rs ≡ pick c (r ∷ held_from F n (p ++ F.octets r) rs) (pick d (r ∷ held_from F (n + 1) (F.octets r) rs) []) ++ ys)
      go true d f g = (f.0, ap (λ (l : List R). r ∷ l) f.1)
      go false true f g = (g.0, ap (λ (l : List R). r ∷ l) g.1)
      go false false f g = (r ∷ rs, refl)

  -- they are the first ones
  pub held_first : (rs : List R) → (ys : List R) × (rs ≡ held F rs ++ ys)
  held_first [] = ([], refl)
  held_first (r ∷ rs) = let x = held-from-first rs 0 (F.octets r) in (x.0, ap (λ (l : List R). r ∷ l) x.1)

  pub held-such : (P : R → Type 0) (rs : List R) → All P rs → All P (held F rs)
  held-such P [] g = tt
  held-such P (r ∷ rs) g = (g.0, held-from-such P rs 0 (F.octets r) g.1)

module _ {R : Type 0} (F : Form R) (good : R → Type 0) (L : Lawful F good) where
  -- ---- what was packed is read
  records-there : (rs : List R) (k : ℕ) → All good rs → length rs ≤ k → records_in F k (joined F rs) ≡ got rs
  records-there [] zero g h = refl
  records-there [] (suc k) g h = rw L.empty
  records-there (r ∷ rs) zero g h = absurd (omega (arith, h))
  records-there (r ∷ rs) (suc k) g h = rw (L.there r (joined F rs) g.0, records-there rs k g.1 (omega (arith, h)))

  joined-long : (rs : List R) → All good rs → length rs ≤ length (joined F rs)
  joined-long [] g = omega arith
  joined-long (r ∷ rs) g = omega (arith, length-append (F.octets r) (joined F rs), L.some r g.0, joined-long rs g.1)

  joined-more : (ps : List R) (r : R) → joined F (ps ++ (r ∷ [])) ≡ joined F ps ++ F.octets r
  joined-more [] r = append-nil (F.octets r)
  joined-more (p ∷ ps) r = ap (λ (l : List ℕ). F.octets p ++ l) (joined-more ps r) ∙ sym (append_assoc (F.octets p) (joined F ps) (F.octets r))

  pub block_reads : (n : ℕ) (rs : List R) → n < BLOCKS → All good rs → length (joined F rs) ≤ 504 → read_block F n (block_of (F.top + n) (joined F rs)) ≡ got rs
  unfolding read_block records_of
  block_reads n rs l g h =
      rw (judged-good F.top n (joined F rs) h l, payload-at (F.top + n) (joined F rs) h)
      (records-there rs (length (joined F rs)) g (joined-long rs g))

  pub reads-from : (rs ps : List R) (n : ℕ) → All good ps → All good rs → length (joined F ps) ≤ 504 → n + length (pack_from F n (joined F ps) rs) ≤ BLOCKS
      → read_from F n (pack_from F n (joined F ps) rs) ≡ got (ps ++ rs)
  reads-from [] ps n g k h l = rw (block_reads n ps (omega (arith, l)) g h)
  reads-from (r ∷ rs) ps n g k h l =
      go (leb (length (joined F ps) + length (F.octets r)) 504) refl l
      (λ m. subst (λ (x : List ℕ). n + length (pack_from F n x rs) ≤ BLOCKS → read_from F n (pack_from F n x rs) ≡ got (ps ++ (r ∷ rs))) (joined-more ps r)
      (λ o. reads-from rs (ps ++ (r ∷ [])) n (all_append good ps (r ∷ []) g (k.0, tt)) k.1
      (omega (arith, ap length (joined-more ps r), length-append (joined F ps) (F.octets r), m)) o
      ∙ ap got (append_assoc ps (r ∷ []) rs)))
      (subst (λ (x : List ℕ). n + 1 + length (pack_from F (n + 1) x rs) ≤ BLOCKS → read_from F (n + 1) (pack_from F (n + 1) x rs) ≡ got (r ∷ rs)) (append-nil (F.octets r))
      (reads-from rs (r ∷ []) (n + 1) (k.0, tt) k.1 (omega (arith, ap length (append-nil (F.octets r)), L.room r k.0))))
    where
      go : (c : Bool) → leb (length (joined F ps) + length (F.octets r)) 504 ≡ c
          → n + length (pick c (pack_from F n (joined F ps ++ F.octets r) rs) (block_of (F.top + n) (joined F ps) ∷ pack_from F (n + 1) (F.octets r) rs)) ≤ BLOCKS
          → (length (joined F ps) + length (F.octets r) ≤ 504 → n + length (pack_from F n (joined F ps ++ F.octets r) rs) ≤ BLOCKS
          → read_from F n (pack_from F n (joined F ps ++ F.octets r) rs) ≡ got (ps ++ (r ∷ rs)))
          → (n + 1 + length (pack_from F (n + 1) (F.octets r) rs) ≤ BLOCKS → read_from F (n + 1) (pack_from F (n + 1) (F.octets r) rs) ≡ got (r ∷ rs))
          → read_from F n (pick c (pack_from F n (joined F ps ++ F.octets r) rs) (block_of (F.top + n) (joined F ps) ∷ pack_from F (n + 1) (F.octets r) rs))
          ≡ got (ps ++ (r ∷ rs))
      go true e m f i = f (leb-true _ _ e) m
      go false e m f i = rw (block_reads n ps (omega (arith, m)) g h, i (omega (arith, m)))

  -- (a)
  pub unpack-pack : (rs : List R) → All good rs → length (pack F rs) ≤ BLOCKS → unpack F (pack F rs) ≡ got rs
  unpack-pack [] g h = refl
  unpack-pack (r ∷ rs) g h =
      subst (λ (l : List ℕ). 0 + length (pack_from F 0 l rs) ≤ BLOCKS → read_from F 0 (pack_from F 0 l rs) ≡ got (r ∷ rs)) (append-nil (F.octets r))
      (reads-from rs (r ∷ []) 0 (g.0, tt) g.1 (omega (arith, ap length (append-nil (F.octets r)), L.room r g.0)))
      (omega (arith, h))

  -- how many records a payload may have does not matter, if it has as many octets
  pub records-same : (j k : ℕ) (p : List ℕ) → length p ≤ j → length p ≤ k → records_in F j p ≡ records_in F k p
  records-same zero zero p h l = refl
  records-same zero (suc k) [] h l = rw L.empty
  records-same zero (suc k) (x ∷ p) h l = absurd (omega (arith, h))
  records-same (suc j) zero [] h l = rw L.empty
  records-same (suc j) zero (x ∷ p) h l = absurd (omega (arith, l))
  records-same (suc j) (suc k) p h l = go (F.first p) refl (λ q m i. records-same j k q m i)
    where
      go : (x : One R) → F.first p ≡ x → ((q : List ℕ) → length q ≤ j → length q ≤ k → records_in F j q ≡ records_in F k q)
          → then x (records_in F j) ≡ then x (records_in F k)
      go (one r rest) e i =
          let s = L.shorter p rest r e in
          ap (onto r) (i rest (omega (arith, s, h)) (omega (arith, s, l)))
      go none e i = refl
      go cut e i = refl

  -- every block is of octets, while its number has four
  joined_bytes : (rs : List R) → All good rs → Octets (joined F rs)
  joined_bytes [] g = octets-none
  joined_bytes (r ∷ rs) g = octets-append (F.octets r) (joined F rs) (L.bytes r g.0) (joined_bytes rs g.1)

  pub packs_bytes : (rs : List R) (n : ℕ) (p : List ℕ) → Octets p → length p ≤ 504 → All good rs → F.top + n + length (pack_from F n p rs) ≤ 4294967296
      → All Octets (pack_from F n p rs)
  packs_bytes [] n p o h g l = (block-bytes (F.top + n) p (omega (arith, l)) h o, tt)
  packs_bytes (r ∷ rs) n p o h g l =
      go (leb (length p + length (F.octets r)) 504) refl l
      (λ m. packs_bytes rs n (p ++ F.octets r) (octets-append p (F.octets r) o (L.bytes r g.0)) (omega (arith, length-append p (F.octets r), m)) g.1)
      (packs_bytes rs (n + 1) (F.octets r) (L.bytes r g.0) (L.room r g.0) g.1)
    where
      go : (c : Bool) → leb (length p + length (F.octets r)) 504 ≡ c
          → F.top + n + length (pick c (pack_from F n (p ++ F.octets r) rs) (block_of (F.top + n) p ∷ pack_from F (n + 1) (F.octets r) rs)) ≤ 4294967296
          → (length p + length (F.octets r) ≤ 504 → F.top + n + length (pack_from F n (p ++ F.octets r) rs) ≤ 4294967296 → All Octets (pack_from F n (p ++ F.octets r) rs))
          → (F.top + (n + 1) + length (pack_from F (n + 1) (F.octets r) rs) ≤ 4294967296 → All Octets (pack_from F (n + 1) (F.octets r) rs))
          → All Octets (pick c (pack_from F n (p ++ F.octets r) rs) (block_of (F.top + n) p ∷ pack_from F (n + 1) (F.octets r) rs))
      go true e k f i = f (leb-true _ _ e) k
      go false e k f i = (block-bytes (F.top + n) p (omega (arith, k)) h o, i (omega (arith, k)))

  pub pack-bytes : (rs : List R) → All good rs → F.top + length (pack F rs) ≤ 4294967296 → All Octets (pack F rs)
  pack-bytes [] g h = tt
  pack-bytes (r ∷ rs) g h = packs_bytes rs 0 (F.octets r) (L.bytes r g.0) (L.room r g.0) g.1 (omega (arith, h))

  -- ---- what is read is packed so
  octets-rest : (p q rest : List ℕ) → Octets p → p ≡ q ++ rest → Octets rest
  octets-rest p q rest o e k = subst (λ (x : ℕ). x < 256) (ap (λ (l : List ℕ). get_or l (length q + k) 0) e ∙ there q rest (length q) k refl) (o (length q + k))

  records-back : (k : ℕ) (p : List ℕ) (rs : List R) → Octets p → records_in F k p ≡ got rs → All good rs × (p ≡ joined F rs)
  records-back zero p rs o e = go (eqb (length p) 0) refl e
    where
      empty : (q : List ℕ) → length q ≡ 0 → q ≡ []
      empty [] h = refl
      empty (x ∷ q) h = absurd (omega (arith, h))

      none_left : (l : List R) → got [] ≡ got l → length p ≡ 0 → All good l × (p ≡ joined F l)
      none_left [] f h = (tt, empty p h)
      none_left (r ∷ l) f h = let z : ◌≡◌ {A = ℕ} 0 1 = cc in absurd (omega arith)

      go : (c : Bool) → eqb (length p) 0 ≡ c → pick c (got []) (bad NOT-READABLE) ≡ got rs → All good rs × (p ≡ joined F rs)
      go true f g = none_left rs g (eqb-true _ _ f)
      go false f g = let z : ◌≡◌ {A = ℕ} 0 1 = cc in absurd (omega arith)
  records-back (suc k) p rs o e = go (F.first p) refl e (λ q l. records-back k q l)
    where
      go : (x : One R) → F.first p ≡ x → then x (records_in F k) ≡ got rs
          → ((q : List ℕ) (l : List R) → Octets q → records_in F k q ≡ got l → All good l × (q ≡ joined F l))
          → All good rs × (p ≡ joined F rs)
      go (one r rest) f g h =
          let a = L.back p rest r o f in
          let b = onto-got r (records_in F k rest) rs g in
          let c = h rest b.0 (octets-rest p (F.octets r) rest o a.1) b.1.0 in
          subst (λ (l : List R). All good l × (p ≡ joined F l)) (sym b.1.1) ((a.0, c.0), a.1 ∙ ap (λ (l : List ℕ). F.octets r ++ l) c.1)
      go none f g h =
          let e : rs ≡ [] = cc in
          subst (λ (l : List R). All good l × (p ≡ joined F l)) (sym e) (tt, L.done p f)
      go cut f g h = let z : ◌≡◌ {A = ℕ} 0 1 = cc in absurd (omega arith)

  -- a block that reads well is that of its records
  pub block_back : (n : ℕ) (b : List ℕ) (rs : List R) → Octets b → read_block F n b ≡ got rs
      → All good rs × (length (joined F rs) ≤ 504) × (b ≡ block_of (F.top + n) (joined F rs))
  unfolding read_block records_of
  block_back n b rs o e =
      let u = unless-got _ _ rs e in
      let s = sound F.top n b u.0 in
      let r = records-back (length (payload b)) (payload b) rs (octets-payload b o) u.1 in (
        r.0,
        omega (arith, ap length r.1, payload-long F.top n b o s, s.room),
        block_is F.top n b o s ∙ ap (block_of (F.top + n)) r.1,
      )

  pub reads-good : (bs : List (List ℕ)) (n : ℕ) (rs : List R) → All Octets bs → read_from F n bs ≡ got rs → All good rs
  reads-good [] n rs o e = let f : rs ≡ [] = cc in subst (All good) (sym f) tt
  reads-good (b ∷ bs) n rs o e =
      let x = beside-got (read_block F n b) (read_from F (n + 1) bs) rs e in
      let xs = x.0 in
      let ys = x.1.0 in
      subst (All good) (sym x.1.1.1.1)
      (all_append good xs ys (block_back n b xs o.0 x.1.1.0).0 (reads-good bs (n + 1) ys o.1 x.1.1.1.0))
