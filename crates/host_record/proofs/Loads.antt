-- Reading a record: a word in a part of the octets, and octets filled up with zeros. Assumes nothing.
use Prim.Native.Nat.{ℕ, zero, suc, ◌+◌, ◌*◌, ◌≤◌, ◌<◌}
use mathlib.Core.Path.{◌≡◌, refl, ap, ◌∙◌}
use mathlib.Core.List.{List, [], ◌∷◌}
use native.Mathlib.Omega.{arith}
use lib.ListN.{get_or, set, take, drop, replicate}
use lib.Seq.{sets, get_or-take, get_or-drop}
use Rattle.link.specs.Names.{timers}
use Rattle.octets.specs.Octets.{word_at, words}
use Rattle.host_record.specs.RecordLayout.{RECORD-OCTETS, link_of}

-- ---- four octets of many
module _ (s : List ℕ) (i n : ℕ) (h : 4 ≤ n) where
  part_at : (k : ℕ) → k < 4 → get_or (take n (drop i s)) k 0 ≡ get_or s (i + k) 0
  part_at k l = get_or-take n (drop i s) k 0 (omega (arith, h, l)) ∙ get_or-drop i s k 0

  pub part-word : word_at (take n (drop i s)) 0 ≡ word_at s i
  part-word =
      let e : i + 0 ≡ i = omega arith in
      rw (part_at 0 (omega arith), part_at 1 (omega arith), part_at 2 (omega arith), part_at 3 (omega arith), e)

-- ---- zeros where octets are not there
sets-cons : (vs l : List ℕ) (v i : ℕ) → sets (v ∷ l) (suc i) vs ≡ v ∷ sets l i vs
sets-cons [] l v i = refl
sets-cons (w ∷ vs) l v i = sets-cons vs (set l i w) v (suc i)

zero-at : (n k : ℕ) → ◌≡◌ {A = ℕ} (get_or (replicate n 0) k 0) 0
zero-at zero k = refl
zero-at (suc n) zero = refl
zero-at (suc n) (suc k) = zero-at n k

filled_at : (n : ℕ) (s : List ℕ) (k : ℕ) → k < n → get_or (sets (replicate n 0) 0 s) k 0 ≡ get_or s k 0
filled_at n [] k h = zero-at n k
filled_at zero (x ∷ s) k h = absurd (omega (arith, h))
filled_at (suc n) (x ∷ s) zero h = ap (λ (l : List ℕ). get_or l 0 0) (sets-cons s (replicate n 0) x 0)
filled_at (suc n) (x ∷ s) (suc k) h = ap (λ (l : List ℕ). get_or l (suc k) 0) (sets-cons s (replicate n 0) x 0) ∙ filled_at n s k (omega (arith, h))

module _ (s t : List ℕ) (f : (k : ℕ) → k < RECORD-OCTETS → get_or t k 0 ≡ get_or s k 0) where
  word_same : (i : ℕ) → i + 4 ≤ RECORD-OCTETS → word_at t i ≡ word_at s i
  word_same i h = rw (f i (omega (arith, h)), f (i + 1) (omega (arith, h)), f (i + 2) (omega (arith, h)), f (i + 3) (omega (arith, h)))

  words_same : (i n : ℕ) → i + n * 4 ≤ RECORD-OCTETS → words t i n ≡ words s i n
  words_same i zero h = refl
  words_same i (suc n) h = rw (word_same i (omega (arith, h)), words_same (i + 4) n (omega (arith, h)))

  link-same : link_of t ≡ link_of s
  unfolding link_of
  link-same =
      rw (words_same 0 timers (omega arith), words_same 40 timers (omega arith), word_same 85 (omega arith), word_same 89 (omega arith))
      (rw (f 80 (omega arith), f 81 (omega arith), f 82 (omega arith), f 83 (omega arith), f 84 (omega arith)))

pub filled-link : (s : List ℕ) → link_of (sets (replicate RECORD-OCTETS 0) 0 s) ≡ link_of s
filled-link s = link-same s (sets (replicate RECORD-OCTETS 0) 0 s) (filled_at RECORD-OCTETS s)
