-- Writing a record and closing a block. Assumes nothing.
use Prim.Native.Nat.{ℕ, zero, suc, ◌+◌, ◌-◌, ◌≤◌, ◌<◌, min}
use mathlib.Core.Path.{◌≡◌, refl, sym, ap, ◌∙◌}
use mathlib.Core.Bool.{Bool, true, false}
use mathlib.Core.List.{List, [], ◌∷◌, ◌++◌, append_assoc, append-nil}
use native.Mathlib.Omega.{arith}
use native.Mathlib.Numerals.{unary_clauses}
use borrow.Author.Tests.{eq-eqb, ne_eqb, le-leb, lt-leb, lt-ltb, le-ltb, eqb-true, leb-true, ltb-true}
use lib.Dec.{ltb}
use lib.ListN.{length, take, drop, set, length-drop, drop_of_length-le}
use lib.Seq.{sets, sets-eq, length-sets, length-take-le, take_at, drop_at, take-add}
use Rattle.text.proofs.Laws.{both_true}
use Rattle.link.specs.Tests.{pick}
use Rattle.octets.specs.Octets.{quad, pair, zeros}
use Rattle.octets.specs.laws.Runs.{length-zeros, sets-append}
use Rattle.log_blocks.specs.Block.{BLOCKS, check_of, front_of, block_of}
use Rattle.log_blocks.specs.Record.{Rec, rec, rec_octets}
use Rattle.log_blocks.specs.Tapes.{tape, written, fitting, follows, appended, appended_to, finished, finished_to, Appends, Finishes}
use Rattle.log_blocks.specs.declared.Tape.{Tape}
use Rattle.log_blocks.specs.declared.NotWritten.TheVariants.{Full, Ended, Refused}
use Rattle.std.specs.Prelude.{Some, None, Ok, Err}
use Rattle.log_blocks.proofs.Blocks.{front_long}

-- ---- a record's octets, part by part
pub record-puts : (out d : List ℕ) (at k s : ℕ) → sets (set (sets (set out at k) (at + 1) (quad s)) (at + 5) (length d)) (at + 6) d ≡ sets out at (rec_octets (rec k s d))
record-puts out d at k s =
    let e : at + 1 ≡ suc at = omega arith in
    let f : at + 5 ≡ suc (suc (suc (suc (suc at)))) = omega arith in
    let g : at + 6 ≡ suc (suc (suc (suc (suc (suc at))))) = omega arith in
    rw (e, f, g)

pub take_min : (n : ℕ) (l : List ℕ) → take (min n (length l)) l ≡ take n l
take_min zero l = simp unary_clauses
take_min (suc n) [] = simp unary_clauses
take_min (suc n) (x ∷ l) = simp unary_clauses (ap (λ (r : List ℕ). x ∷ r) (take_min n l))

pub take-least : (n k : ℕ) (l : List ℕ) → k ≡ min n (length l) → take k l ≡ take n l
take-least n k l e = rw e (take_min n l)

-- ---- a block of this tape
pub no_size : (n u size : ℕ) → (size ≡ 512 → ⊥) → false ≡ fitting (tape n u) size
unfolding fitting
no_size n u size h = rw (ne_eqb _ _ h)

pub no_payload : (n u size : ℕ) → size ≡ 512 → 504 < u → false ≡ fitting (tape n u) size
unfolding fitting
no_payload n u size h k = rw (eq-eqb _ _ h, lt-leb _ 504 k)

pub no_number : (n u size : ℕ) (c : Bool) → size ≡ 512 → u ≤ 504 → c ≡ ltb n BLOCKS → c ≡ fitting (tape n u) size
unfolding fitting
no_number n u size c h k e = rw (e, eq-eqb _ _ h, le-leb _ 504 k)

pub record Fits (t : Tape) (size : ℕ) : Type 0 where
  pub long : size ≡ 512
  pub room : t.used ≤ 504
  pub number : t.number < BLOCKS

pub fits : (t : Tape) (size : ℕ) → fitting t size ≡ true → Fits t size
unfolding fitting
fits t size e =
    let x = both_true _ _ e in
    let y = both_true _ _ x.1 in
    record { long = eqb-true _ _ x.0; room = leb-true _ _ y.0; number = ltb-true _ _ y.1 }

pub fitting-is : (t : Tape) (size : ℕ) → Fits t size → fitting t size ≡ true
unfolding fitting
fitting-is t size f = rw (eq-eqb _ _ f.long, le-leb _ 504 f.room, lt-ltb _ BLOCKS f.number)

-- ---- into a block, or not
pub no_block : (t : Tape) (b : List ℕ) (r : Rec) → fitting t (length b) ≡ false → Appends t b r (Err Refused) b
unfolding appended appended_to
no_block t b r h = record { answer_is = rw h; block_is = rw h }

module _ (t : Tape) (b : List ℕ) (r : Rec) (h : fitting t (length b) ≡ true) where
  module _ (k : 504 < t.used + length (rec_octets r)) where
    pub no_room : t.number + 1 < BLOCKS → Appends t b r (Err Full) b
    unfolding appended appended_to
    no_room l = record { answer_is = rw (h, lt-leb _ 504 k, lt-ltb _ BLOCKS l); block_is = rw (h, lt-leb _ 504 k) }

    pub no_more : BLOCKS ≤ t.number + 1 → Appends t b r (Err Ended) b
    unfolding appended appended_to
    no_more l = record { answer_is = rw (h, lt-leb _ 504 k, le-ltb _ BLOCKS l); block_is = rw (h, lt-leb _ 504 k) }

  pub room : t.used + length (rec_octets r) ≤ 504
      → Appends t b r (Ok (tape t.number (t.used + length (rec_octets r)))) (sets b (6 + t.used) (rec_octets r))
  unfolding appended appended_to
  room k = record { answer_is = rw (h, le-leb _ 504 k); block_is = rw (h, le-leb _ 504 k) }

-- ---- closing
module _ (b : List ℕ) (n u : ℕ) (h : length b ≡ 512) (k : u ≤ 504) where
  abbrev p : List ℕ
  p = take u (drop 6 b)

  p-long : length p ≡ u
  p-long = length-take-le u (drop 6 b) (omega (arith, length-drop 6 b))

  abbrev z : List ℕ
  z = sets b (6 + u) (zeros (510 - (6 + u)))

  abbrev six : List ℕ
  six = quad n ++ pair u

  abbrev f : List ℕ
  f = sets (sets z 0 (quad n)) 4 (pair u)

  z-is : z ≡ take 6 b ++ (p ++ (zeros (504 - u) ++ drop 510 b))
  z-is =
      let e : 510 - (6 + u) ≡ 504 - u = omega arith in
      let l = length-zeros (504 - u) in
      let i : 6 + u + length (zeros (504 - u)) ≡ 510 = omega (arith, l) in
      ap (λ (j : ℕ). sets b (6 + u) (zeros j)) e
      ∙ sets-eq (zeros (504 - u)) b (6 + u) (omega (arith, l))
      ∙ ap (λ (j : ℕ). (take (6 + u) b ++ zeros (504 - u)) ++ drop j b) i
      ∙ append_assoc (take (6 + u) b) (zeros (504 - u)) (drop 510 b)
      ∙ ap (λ (x : List ℕ). x ++ (zeros (504 - u) ++ drop 510 b)) (take-add 6 u b)
      ∙ append_assoc (take 6 b) p (zeros (504 - u) ++ drop 510 b)

  z-long : length z ≡ 512
  z-long = length-sets b (6 + u) (zeros (510 - (6 + u))) ∙ h

  z-rest : drop 6 z ≡ p ++ (zeros (504 - u) ++ drop 510 b)
  z-rest = ap (drop 6) z-is ∙ drop_at (take 6 b) (p ++ (zeros (504 - u) ++ drop 510 b)) 6 (length-take-le 6 b (omega arith))

  f-is : f ≡ front_of n p ++ drop 510 b
  unfolding front_of
  f-is =
      sets-append (quad n) (pair u) z 0 4 refl
      ∙ sets-eq six z 0 (omega (arith, z-long))
      ∙ ap (λ (x : List ℕ). six ++ x) (z-rest ∙ sym (append_assoc p (zeros (504 - u)) (drop 510 b)))
      ∙ ap (λ (j : ℕ). quad n ++ (pair j ++ ((p ++ zeros (504 - j)) ++ drop 510 b))) (sym p-long)

  pub front-there : take 510 f ≡ front_of n p
  front-there = ap (take 510) f-is ∙ take_at (front_of n p) (drop 510 b) 510 (front_long n p (omega (arith, p-long)))

  pub sealed : (c : ℕ) → c ≡ check_of (take 510 f) → sets f 510 (pair c) ≡ block_of n p
  unfolding block_of
  sealed c e =
      let l : length f ≡ 512 = length-sets (sets z 0 (quad n)) 4 (pair u) ∙ length-sets z 0 (quad n) ∙ z-long in
      let m : length f ≤ 512 = omega (arith, l) in
      sets-eq (pair c) f 510 (omega (arith, l))
      ∙ ap (λ (x : List ℕ). (take 510 f ++ pair c) ++ x) (drop_of_length-le f m)
      ∙ append-nil (take 510 f ++ pair c)
      ∙ ap (λ (x : List ℕ). x ++ pair c) front-there
      ∙ ap (λ (x : ℕ). front_of n p ++ pair x) (e ∙ ap check_of front-there)

pub not-closed : (t : Tape) (b : List ℕ) → fitting t (length b) ≡ false → Finishes t b (Err (record {})) b
unfolding finished finished_to
not-closed t b h = record { answer_is = rw h; block_is = rw h }

module _ (t : Tape) (b : List ℕ) (h : fitting t (length b) ≡ true) where
  pub closed : Finishes t b (Ok (pick (follows t) (Some (tape (t.number + 1) 0)) None)) (block_of t.number (take t.used (drop 6 b)))
  unfolding finished finished_to written
  closed = record { answer_is = rw h; block_is = rw h }

  pub finished-is : finished_to t b ≡ block_of t.number (written t b)
  unfolding finished_to
  finished-is = rw h
