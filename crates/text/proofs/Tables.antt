-- The words of a table, as laws. Assumes nothing.
use mathlib.Core.Path.{◌≡◌, refl, sym, ◌∙◌}
use mathlib.Core.Bool.{true}
use mathlib.Core.List.{List, [], ◌∷◌}
use mathlib.Core.Logic.{⊎_elim}
use Prim.Native.Nat.{ℕ, zero, suc, ◌+◌, ◌-◌, ◌≤◌, ◌<◌, min}
use native.Mathlib.Nat.{min-eq_left, min-eq_right}
use native.Mathlib.Numerals.{add-one}
use native.Mathlib.Omega.{arith}
use lib.ListN.{length, get_or, take, drop, length-drop, drop_of_length-le, get_or-eq_default}
use lib.Seq.{take_all, take-nil, drop-cons}
use Rattle.text.specs.Text.{same_text}
use Rattle.text.specs.Words.{words_of, word_at, found_from}
use Rattle.text.proofs.Laws.{le-or-lt, part-all}

-- how many words there are
pub words-length : (text begins : List ℕ) → length (words_of text begins) ≡ length begins - 1
words-length text [] = refl
words-length text (b ∷ []) = refl
words-length text (b ∷ e ∷ bs) = omega (arith, words-length text (e ∷ bs))

-- past the last word
pub word_none : (text begins : List ℕ) (n : ℕ) → length begins ≤ n + 1 → [] ≡ word_at (words_of text begins) n
word_none text begins n h = sym (get_or-eq_default (words_of text begins) [] (omega (arith, words-length text begins)))

-- a word is a part of the text
word-is : (text begins : List ℕ) (n : ℕ) → n + 1 < length begins
    → word_at (words_of text begins) n ≡ take (get_or begins (suc n) 0 - get_or begins n 0) (drop (get_or begins n 0) text)
word-is text [] n h = absurd (omega arith)
word-is text (b ∷ []) n h = absurd (omega arith)
word-is text (b ∷ e ∷ bs) zero h = refl
word-is text (b ∷ e ∷ bs) (suc n) h = word-is text (e ∷ bs) n (omega arith)

-- a part that has no octets
no_part : (t : List ℕ) (k a : ℕ) → k ≡ 0 → take k (drop a t) ≡ []
no_part t k a e = rw e

-- the part of a text from b to e, as far as it is there
module _ (t : List ℕ) (b e : ℕ) where
  inside : e ≤ length t → b ≤ e → take (min e (length t) - min b (min e (length t))) (drop (min b (min e (length t))) t) ≡ take (e - b) (drop b t)
  inside p q = rw (min-eq_left p, min-eq_left q)

  over : length t < e → b ≤ length t → take (min e (length t) - min b (min e (length t))) (drop (min b (min e (length t))) t) ≡ take (e - b) (drop b t)
  over p q =
      let l : length t ≤ e = omega arith in
      rw (min-eq_right l, min-eq_left q, part-all t b (length t) refl) (sym (take_all (e - b) (drop b t) (simp length-drop (omega arith))))

  behind : (m : ℕ) → m ≡ min e (length t) → m < b → take (e - b) (drop b t) ≡ [] → take (m - min b m) (drop (min b m) t) ≡ take (e - b) (drop b t)
  behind m p q z = let l : m ≤ b = omega arith in no_part t (m - min b m) (min b m) (rw (min-eq_right l) (omega arith)) ∙ sym z

  part-there : take (min e (length t) - min b (min e (length t))) (drop (min b (min e (length t))) t) ≡ take (e - b) (drop b t)
  part-there =
      ⊎_elim
      (λ (p : e ≤ length t). ⊎_elim (λ (q : b ≤ e). inside p q)
      (λ (q : e < b). behind (min e (length t)) refl (rw (min-eq_left p) q) (no_part t (e - b) b (omega arith))) (le-or-lt b e))
      (λ (p : length t < e). ⊎_elim (λ (q : b ≤ length t). over p q)
      (λ (q : length t < b).
      let l : length t ≤ e = omega arith in
      let m : length t ≤ b = omega arith in
      behind (min e (length t)) refl (rw (min-eq_right l) q) (rw (drop_of_length-le t m) (take-nil (e - b)))) (le-or-lt b (length t)))
      (le-or-lt e (length t))

pub word-part : (text begins : List ℕ) (n to from : ℕ) → n + 1 < length begins → to ≡ min (get_or begins (n + 1) 0) (length text)
    → from ≡ min (get_or begins n 0) to → take (to - from) (drop from text) ≡ word_at (words_of text begins) n
word-part text begins n to from h p q = rw (q, p, word-is text begins n h, add-one n) (part-there text (get_or begins n 0) (get_or begins (suc n) 0))

-- one word of those that are looked through
module _ (w : List ℕ) (words : List (List ℕ)) (n : ℕ) where
  pub word-found : n < length words → same_text w (word_at words n) ≡ true → n ≡ found_from n w (drop n words)
  word-found h e = rw (drop-cons words n [] h, e)

  pub word-missing : length words ≤ n → 0 ≡ found_from n w (drop n words)
  word-missing h = rw (drop_of_length-le words h)
