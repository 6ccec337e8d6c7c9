-- A host's block between two calls: the number, the length, the records so far, and behind them anything. Assumes nothing.
use Prim.Native.Nat.{ℕ, suc, ◌+◌, ◌≤◌, ◌<◌}
use mathlib.Core.Path.{◌≡◌, refl, sym, ap, ◌∙◌}
use mathlib.Core.Bool.{true}
use mathlib.Core.List.{List, [], ◌∷◌, ◌++◌, append_assoc}
use native.Mathlib.Omega.{arith}
use borrow.Author.Tests.{eq-eqb, le-leb, lt-ltb}
use lib.ListN.{length, set, take, drop, length-append, length-drop}
use lib.Seq.{sets, sets-eq, take_at}
use Rattle.octets.specs.Octets.{quad, pair, word_at, pair_at, zeros}
use Rattle.octets.specs.laws.Numbers.{quad-word, pair-word}
use Rattle.octets.specs.laws.Runs.{length-zeros}
use Rattle.log_blocks.specs.Block.{BLOCKS, block_of, payload}
use Rattle.log_blocks.specs.Record.{Rec, noted, rec_octets}
use Rattle.log_blocks.proofs.Seals.{fitting-is}
use Rattle.host_log.specs.Recording.{block_opened, tape_in, is_open, fields_good, record_put, block_appended, block_finished}

-- ---- a run of stores behind what stays
sets-cons : (x : ℕ) (l : List ℕ) (i : ℕ) (v : List ℕ) → sets (x ∷ l) (suc i) v ≡ x ∷ sets l i v
sets-cons x l i [] = refl
sets-cons x l i (a ∷ v) = sets-cons x (set l i a) (suc i) v

sets_behind : (p rest v : List ℕ) → length v ≤ length rest → sets (p ++ rest) (length p) v ≡ p ++ (v ++ drop (length v) rest)
sets_behind [] rest v h =
    let e : 0 + length v ≡ length v = omega arith in
    sets-eq v rest 0 (omega arith) ∙ ap (λ (k : ℕ). v ++ drop k rest) e
sets_behind (x ∷ p) rest v h = sets-cons x (p ++ rest) (length p) v ∙ ap (λ (l : List ℕ). x ∷ l) (sets_behind p rest v h)

-- ---- block n with the payload p
pub record Open (n : ℕ) (p b : List ℕ) : Type 0 where
  pub rest : List ℕ
  pub is : b ≡ quad n ++ (pair (length p) ++ (p ++ rest))
  pub long : length p + length rest ≡ 506

module _ (n : ℕ) (p b : List ℕ) (o : Open n p b) where
  pub number-there : word_at b 0 ≡ n
  number-there = ap (λ (s : List ℕ). word_at s 0) o.is ∙ quad-word n

  pub length-there : pair_at b 4 ≡ length p
  length-there = ap (λ (s : List ℕ). pair_at s 4) o.is ∙ pair-word (length p)

  pub block-there : length b ≡ 512
  block-there = ap length o.is ∙ omega (arith, length-append p o.rest, o.long)

  pub payload-there : payload b ≡ p
  unfolding payload
  payload-there = ap (λ (k : ℕ). take k (drop 6 b)) length-there ∙ ap (λ (s : List ℕ). take (length p) (drop 6 s)) o.is ∙ take_at p o.rest (length p) refl

  module _ (h : n < BLOCKS) (k : length p ≤ 504) where
    pub open-there : is_open b ≡ true
    unfolding is_open
    open-there =
        fitting-is (tape_in b) (length b)
        (record { long = block-there; room = omega (arith, length-there); number = omega (arith, number-there) })

    pub finish-there : (block_finished b).block ≡ block_of n p
    unfolding block_finished
    finish-there = rw (open-there, number-there, payload-there)

    module _ (r : Rec) (f : fields_good r ≡ true) (l : length p + length (rec_octets (noted r)) ≤ 504) where
      abbrev v : List ℕ
      v = rec_octets (noted r)

      put-there : record_put b (noted r) ≡ quad n ++ (pair (length p + length v) ++ (p ++ (v ++ drop (length v) o.rest)))
      unfolding record_put
      put-there =
          let six : 6 + length p ≡ suc (suc (suc (suc (suc (suc (length p)))))) = omega arith in
          let t : List ℕ = p ++ o.rest in
          let m = length p + length v in
          let g : List ℕ → List ℕ = λ (s : List ℕ). sets (quad n ++ (pair (length p) ++ s)) 4 (pair m) in
          ap (λ (u : ℕ). sets (sets b (6 + u) v) 4 (pair (u + length v))) length-there
          ∙ ap (λ (s : List ℕ). sets (sets s (6 + length p) v) 4 (pair m)) o.is
          ∙ ap (λ (u : ℕ). sets (sets (quad n ++ (pair (length p) ++ t)) u v) 4 (pair m)) six
          ∙ ap (λ (s : List ℕ). sets s 4 (pair m)) (behind-six (length p) t)
          ∙ ap g (sets_behind p o.rest v (omega (arith, o.long)))
        where
          behind-six : (u : ℕ) (t : List ℕ) → sets (quad n ++ (pair (length p) ++ t)) (suc (suc (suc (suc (suc (suc u)))))) v ≡ quad n ++ (pair (length p) ++ sets t u v)
          behind-six u t = simp sets-cons

      pub append-there : Open n (p ++ v) (block_appended b r).block
      unfolding block_appended
      append-there =
          let e : pair_at b 4 + length v ≤ 504 = omega (arith, length-there) in
          let a = length-append p v in
          let d = length-drop (length v) o.rest in
          record {
            rest = drop (length v) o.rest;
            is =
                rw (open-there, f, le-leb _ 504 e)
                (put-there
                ∙ ap (λ (k : ℕ). quad n ++ (pair k ++ (p ++ (v ++ drop (length v) o.rest)))) (sym a)
                ∙ ap (λ (s : List ℕ). quad n ++ (pair (length (p ++ v)) ++ s)) (sym (append_assoc p v (drop (length v) o.rest))));
            long = omega (arith, a, d, o.long);
          }

pub opened-there : (n : ℕ) (b : List ℕ) → n < BLOCKS → length b ≡ 512 → Open n [] (block_opened n b).block
unfolding block_opened
opened-there n b h k = record { rest = zeros 506; is = rw (lt-ltb n BLOCKS h, eq-eqb (length b) 512 k); long = length-zeros 506 }
