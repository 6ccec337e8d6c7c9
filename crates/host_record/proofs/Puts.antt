-- Runs of stores: what a loop has still to store stands beside what it has stored. Assumes nothing.
use Prim.Native.Nat.{ℕ, zero, suc, ◌+◌, ◌*◌, ◌≤◌, ◌<◌}
use mathlib.Core.Path.{◌≡◌, refl, sym, ap, ◌∙◌}
use mathlib.Core.List.{List, [], ◌∷◌, ◌++◌, append-nil}
use native.Mathlib.Omega.{arith}
use lib.ListN.{length, get_or, set, take, drop, length-append, drop_of_length-le}
use lib.Seq.{sets, sets-eq, drop-cons}
use borrow.Author.Tests.{eq-eqb, ne_eqb}
use Rattle.link.specs.Names.{timers}
use Rattle.ground_answer.specs.declared.record.Link.{Link}
use Rattle.host_record.specs.RecordLayout.{five, interval_octets, RECORD-OCTETS, rest_octets, record_octets, saved}
use Rattle.octets.specs.Octets.{quad, quads, word_at, words}
use Rattle.octets.specs.laws.Numbers.{length-quads, quads-words}

add-one : (i : ℕ) → i + 1 ≡ suc i
add-one i = omega arith

pub quads-start : (ws out : List ℕ) (at : ℕ) → sets out (at + 0 * 4) (quads ws) ≡ sets out at (quads ws)
quads-start ws out at = let e : at + 0 * 4 ≡ at = omega arith in rw e

pub quads-step : (ws out : List ℕ) (at i : ℕ) → i < length ws
    → sets (sets out (at + i * 4) (quad (get_or ws i 0))) (at + (i + 1) * 4) (quads (drop (i + 1) ws)) ≡ sets out (at + i * 4) (quads (drop i ws))
quads-step ws out at i h =
    let e : at + (i + 1) * 4 ≡ suc (suc (suc (suc (at + i * 4)))) = omega arith in
    rw (e, add-one i, drop-cons ws i 0 h)

pub quads-end : (ws out : List ℕ) (at i : ℕ) → length ws ≤ i → sets out (at + i * 4) (quads (drop i ws)) ≡ out
quads-end ws out at i h = rw (drop_of_length-le ws h)

-- ---- a list is its elements
abbrev pub elements_from : List ℕ → ℕ → ℕ → List ℕ
elements_from xs i zero = []
elements_from xs i (suc n) = get_or xs i 0 ∷ elements_from xs (suc i) n

elements-from : (xs : List ℕ) (i n : ℕ) → length xs ≡ i + n → elements_from xs i n ≡ drop i xs
elements-from xs i zero e = sym (drop_of_length-le xs (omega (arith, e)))
elements-from xs i (suc n) e = rw (elements-from xs (suc i) n (omega (arith, e)), drop-cons xs i 0 (omega (arith, e)))

pub elements : (xs : List ℕ) (n : ℕ) → length xs ≡ n → elements_from xs 0 n ≡ xs
elements xs n e = elements-from xs 0 n (omega (arith, e))

-- ---- one run after another is one run
pub sets-append : (xs ys l : List ℕ) (i n : ℕ) → n ≡ i + length xs → sets (sets l i xs) n ys ≡ sets l i (xs ++ ys)
sets-append [] ys l i n e = let f : n ≡ i = omega (arith, e) in rw f
sets-append (x ∷ xs) ys l i n e = sets-append xs ys (set l i x) (suc i) n (omega (arith, e))

-- and up to the end
sets_end : (xs l : List ℕ) (i : ℕ) → length l ≡ i + length xs → sets l i xs ≡ take i l ++ xs
sets_end xs l i e =
    let n : length l ≤ i + length xs = omega (arith, e) in
    sets-eq xs l i (omega (arith, e))
    ∙ ap (λ (r : List ℕ). take i l ++ xs ++ r) (drop_of_length-le l n)
    ∙ append-nil (take i l ++ xs)

-- ---- numbers that are read one after another
length-words : (s : List ℕ) (i n : ℕ) → length (words s i n) ≡ n
length-words s i zero = refl
length-words s i (suc n) = ap suc (length-words s (i + 4) n)

words_more : (s : List ℕ) (i n : ℕ) → words s i n ++ (word_at s (i + n * 4) ∷ []) ≡ words s i (suc n)
words_more s i zero = let e : i + 0 * 4 ≡ i = omega arith in ap (λ (k : ℕ). word_at s k ∷ []) e
words_more s i (suc n) =
    let e : i + suc n * 4 ≡ i + 4 + n * 4 = omega arith in
    rw e (ap (λ (x : List ℕ). word_at s i ∷ x) (words_more s (i + 4) n))

pub words_step : (l s : List ℕ) (i n : ℕ) → set (sets l 0 (words s i n)) n (word_at s (i + n * 4)) ≡ sets l 0 (words s i (n + 1))
words_step l s i n =
    sets-append (words s i n) (word_at s (i + n * 4) ∷ []) l 0 n (omega (arith, length-words s i n))
    ∙ ap (sets l 0) (words_more s i n ∙ ap (words s i) (sym (add-one n)))

-- ---- the whole record
module _ (l : Link) (k : length l.left ≡ timers) where
  length_rest : length (rest_octets l) ≡ 53
  length_rest = length-append (quads l.left) (five l.at ++ interval_octets l.interval) ∙ omega (arith, length-quads l.left)

  pub length-record : length l.setting ≡ timers → length (record_octets l) ≡ RECORD-OCTETS
  unfolding record_octets
  length-record h = length-append (quads l.setting) (rest_octets l) ∙ omega (arith, length-quads l.setting, length_rest)

  module _ (s : List ℕ) where
    pub rest-run : sets (sets (sets s 40 (quads l.left)) 80 (five l.at)) 85 (interval_octets l.interval) ≡ sets s 40 (rest_octets l)
    rest-run =
        sets-append (five l.at) (interval_octets l.interval) (sets s 40 (quads l.left)) 80 85 refl
        ∙ sets-append (quads l.left) (five l.at ++ interval_octets l.interval) s 40 80 (omega (arith, length-quads l.left))

    module _ (n : length s ≡ RECORD-OCTETS) where
      pub record-whole : length l.setting ≡ timers → sets (sets s 0 (quads l.setting)) 40 (rest_octets l) ≡ record_octets l
      unfolding record_octets
      record-whole h =
          sets-append (quads l.setting) (rest_octets l) s 0 40 (omega (arith, length-quads l.setting))
          ∙ sets_end (quads l.setting ++ rest_octets l) s 0 (omega (arith, n, length-record h))

      -- where the octets spell the settings already
      pub record-rest : ((i : ℕ) → get_or s i 0 < 256) → l.setting ≡ words s 0 timers → sets s 40 (rest_octets l) ≡ record_octets l
      unfolding record_octets
      record-rest f e =
          sets_end (rest_octets l) s 40 (omega (arith, n, length_rest))
          ∙ ap (λ (x : List ℕ). x ++ rest_octets l) (sym (ap quads e ∙ quads-words s 0 timers f (omega (arith, n))))

-- ---- into octets that are a record's, and into others
module _ (l : Link) (s : List ℕ) where
  pub saved-record : length s ≡ RECORD-OCTETS → saved l s ≡ record_octets l
  unfolding saved
  saved-record h = rw (eq-eqb (length s) RECORD-OCTETS h)

  pub saved-other : (length s ≡ RECORD-OCTETS → ⊥) → saved l s ≡ s
  unfolding saved
  saved-other h = rw (ne_eqb (length s) RECORD-OCTETS h)
