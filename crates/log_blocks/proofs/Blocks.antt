-- A block's octets read as that block, and a block that is judged good has the octets of its number and payload. Assumes nothing.
use Prim.Native.Nat.{ℕ, ◌+◌, ◌-◌, ◌≤◌, ◌<◌}
use mathlib.Core.Path.{◌≡◌, refl, sym, ap, ◌∙◌}
use mathlib.Core.Bool.{true}
use mathlib.Core.List.{List, [], ◌∷◌, ◌++◌, append_assoc}
use native.Mathlib.Omega.{arith}
use borrow.Author.Tests.{eq-eqb, le-leb, lt-ltb, eqb-true, leb-true, ltb-true}
use lib.ListN.{length, get_or, take, drop, length-append, length-drop, take-append-drop}
use lib.Seq.{take_at, drop_at, length-take-le, drop-drop, get_or-drop}
use Rattle.text.proofs.Laws.{both_true}
use Rattle.octets.specs.Octets.{quad, pair, word_at, pair_at, zeros, Octets}
use Rattle.octets.specs.laws.Numbers.{there, quad-word, pair-word, word-quad, word-pair}
use Rattle.octets.specs.laws.Runs.{six, two, length-zeros, octets-take, octets-drop, octets-append, octets-quad, octets-pair, octets-zeros}
use Rattle.log_blocks.specs.Block.{BLOCKS, check_of, front_of, block_of, all_zero, length_judged, judged, payload}
use Rattle.log_blocks.proofs.Tests.{pick-none, zeros-all, all-zeros}

-- ---- from a number and a payload to the block, and back
module _ (n : ℕ) (p : List ℕ) (h : length p ≤ 504) where
  pub front_long : length (front_of n p) ≡ 510
  unfolding front_of
  front_long =
      omega (arith, length-append p (zeros (504 - length p)), length-zeros (504 - length p))

  pub block-long : length (block_of n p) ≡ 512
  unfolding block_of
  block-long = length-append (front_of n p) (pair (check_of (front_of n p))) ∙ omega (arith, front_long)

  check-at : pair_at (block_of n p) 510 ≡ check_of (front_of n p)
  unfolding block_of
  check-at =
      let f = front_of n p in
      let c = check_of f in
      rw (there f (pair c) 510 0 front_long, there f (pair c) 510 1 front_long) (pair-word c)

  front_at : take 510 (block_of n p) ≡ front_of n p
  unfolding block_of
  front_at = take_at (front_of n p) (pair (check_of (front_of n p))) 510 front_long

  number_at : word_at (block_of n p) 0 ≡ n
  unfolding block_of front_of
  number_at = quad-word n

  length_at : pair_at (block_of n p) 4 ≡ length p
  unfolding block_of front_of
  length_at = pair-word (length p)

  abbrev behind : List ℕ
  behind = zeros (504 - length p) ++ pair (check_of (front_of n p))

  drop-6 : drop 6 (block_of n p) ≡ p ++ behind
  unfolding block_of front_of
  drop-6 = append_assoc p (zeros (504 - length p)) (pair (check_of (front_of n p)))

  pub payload-at : payload (block_of n p) ≡ p
  unfolding payload
  payload-at = rw (length_at, drop-6) (take_at p behind (length p) refl)

  zeros-at : take (504 - length p) (drop (6 + length p) (block_of n p)) ≡ zeros (504 - length p)
  zeros-at =
      let z = zeros (504 - length p) in
      rw (← drop-drop (length p) 6 (block_of n p), drop-6, drop_at p behind (length p) refl)
      (take_at z (pair (check_of (front_of n p))) (504 - length p) (length-zeros (504 - length p)))

  length-good : length_judged (block_of n p) ≡ 0
  unfolding length_judged
  length-good = rw (length_at, le-leb (length p) 504 h, zeros-at, zeros-all (504 - length p))

pub judged-good : (top n : ℕ) (p : List ℕ) → length p ≤ 504 → n < BLOCKS → judged top n (block_of (top + n) p) ≡ 0
unfolding judged
judged-good top n p h l =
    let m = top + n in
    rw (eq-eqb (length (block_of m p)) 512 (block-long m p h), front_at m p h, eq-eqb _ _ (check-at m p h), lt-ltb n BLOCKS l, eq-eqb _ _ (number_at m p h))
    (length-good m p h)

pub block-bytes : (n : ℕ) (p : List ℕ) → n < 4294967296 → length p ≤ 504 → Octets p → Octets (block_of n p)
unfolding block_of front_of check_of
block-bytes n p h k o =
    let z = zeros (504 - length p) in
    octets-append (front_of n p) (pair (check_of (front_of n p)))
    (octets-append (quad n) (pair (length p) ++ (p ++ z)) (octets-quad n h)
    (octets-append (pair (length p)) (p ++ z) (octets-pair (length p) (omega (arith, k))) (octets-append p z o (octets-zeros (504 - length p)))))
    (octets-pair (check_of (front_of n p)) (omega arith))

-- ---- what a block that is judged good is
pub record Sound (top n : ℕ) (b : List ℕ) : Type 0 where
  pub long : length b ≡ 512
  pub check : pair_at b 510 ≡ check_of (take 510 b)
  pub due : n < BLOCKS
  pub number : word_at b 0 ≡ top + n
  pub room : pair_at b 4 ≤ 504
  pub clear : all_zero (take (504 - pair_at b 4) (drop (6 + pair_at b 4) b)) ≡ true

pub sound : (top n : ℕ) (b : List ℕ) → judged top n b ≡ 0 → Sound top n b
unfolding judged length_judged
sound top n b e =
    let x = pick-none _ _ 19 e in
    let y = pick-none _ _ 17 x.1 in
    let z = pick-none _ _ 18 y.1 in
    let t = both_true _ _ z.0 in
    let u = pick-none _ _ 19 z.1 in
    let v = pick-none _ _ 19 u.1 in
    record {
      long = eqb-true _ _ x.0;
      check = eqb-true _ _ y.0;
      due = ltb-true _ _ t.0;
      number = eqb-true _ _ t.1;
      room = leb-true _ _ u.0;
      clear = v.0;
    }

pub octets-payload : (b : List ℕ) → Octets b → Octets (payload b)
unfolding payload
octets-payload b o = octets-take (pair_at b 4) (drop 6 b) (octets-drop 6 b o)

module _ (top k : ℕ) (b : List ℕ) (o : Octets b) (s : Sound top k b) where
  abbrev n : ℕ
  n = top + k

  abbrev size : ℕ
  size = pair_at b 4

  pub payload-long : length (payload b) ≡ size
  unfolding payload
  payload-long = length-take-le size (drop 6 b) (omega (arith, length-drop 6 b, s.long, s.room))

  tail-long : length (take (504 - size) (drop (6 + size) b)) ≡ 504 - size
  tail-long = length-take-le (504 - size) (drop (6 + size) b) (omega (arith, length-drop (6 + size) b, s.long, s.room))

  tail-zeros : take (504 - size) (drop (6 + size) b) ≡ zeros (504 - size)
  tail-zeros = all-zeros _ s.clear ∙ ap (λ (k : ℕ). zeros k) tail-long

  -- behind the six octets in front
  rest-is : drop 6 b ≡ payload b ++ (zeros (504 - size) ++ drop 510 b)
  unfolding payload
  rest-is =
      let e : 6 + size + (504 - size) ≡ 510 = omega (arith, s.room) in
      let last : drop (504 - size) (drop (6 + size) b) ≡ drop 510 b = drop-drop (504 - size) (6 + size) b ∙ ap (λ (k : ℕ). drop k b) e in
      let tail : drop size (drop 6 b) ≡ zeros (504 - size) ++ drop 510 b =
      drop-drop size 6 b
      ∙ sym (take-append-drop (504 - size) (drop (6 + size) b))
      ∙ ap (λ (l : List ℕ). l ++ drop (504 - size) (drop (6 + size) b)) tail-zeros
      ∙ ap (λ (l : List ℕ). zeros (504 - size) ++ l) last in
      sym (take-append-drop size (drop 6 b)) ∙ ap (λ (l : List ℕ). payload b ++ l) tail

  quad_is : quad n ≡ get_or b 0 0 ∷ get_or b 1 0 ∷ get_or b 2 0 ∷ get_or b 3 0 ∷ []
  quad_is = ap quad (sym s.number) ∙ word-quad _ _ _ _ (o 1) (o 2) (o 3)

  split : b ≡ front_of n (payload b) ++ drop 510 b
  unfolding front_of
  split =
      let z = zeros (504 - size) in
      six b (omega (arith, s.long))
      ∙ ap (λ (l : List ℕ). get_or b 0 0 ∷ get_or b 1 0 ∷ get_or b 2 0 ∷ get_or b 3 0 ∷ get_or b 4 0 ∷ get_or b 5 0 ∷ l)
      (rest-is ∙ sym (append_assoc (payload b) z (drop 510 b)))
      ∙ ap (λ (l : List ℕ). l ++ (get_or b 4 0 ∷ get_or b 5 0 ∷ ((payload b ++ z) ++ drop 510 b))) (sym quad_is)
      ∙ ap (λ (l : List ℕ). quad n ++ (l ++ ((payload b ++ z) ++ drop 510 b))) (sym (word-pair _ _ (o 5)))
      ∙ ap (λ (k : ℕ). quad n ++ (pair k ++ ((payload b ++ zeros (504 - k)) ++ drop 510 b))) (sym payload-long)

  small : length (payload b) ≤ 504
  small = omega (arith, payload-long, s.room)

  front-is : take 510 b ≡ front_of n (payload b)
  front-is = ap (take 510) split ∙ take_at (front_of n (payload b)) (drop 510 b) 510 (front_long n (payload b) small)

  check-is : drop 510 b ≡ pair (check_of (front_of n (payload b)))
  check-is =
      let e : get_or (drop 510 b) 0 0 ≡ get_or b 510 0 = get_or-drop 510 b 0 0 in
      let f : get_or (drop 510 b) 1 0 ≡ get_or b 511 0 = get_or-drop 510 b 1 0 in
      two (drop 510 b) (length-drop 510 b ∙ omega (arith, s.long))
      ∙ rw (e, f) (sym (word-pair (get_or b 510 0) (get_or b 511 0) (o 511)))
      ∙ ap pair s.check
      ∙ ap (λ (l : List ℕ). pair (check_of l)) front-is

  pub block_is : b ≡ block_of n (payload b)
  unfolding block_of
  block_is = split ∙ ap (λ (l : List ℕ). front_of n (payload b) ++ l) check-is
