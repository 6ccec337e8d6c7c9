-- The words of the lists, by their numbers among all words. Assumes nothing.
use mathlib.Core.Path.{◌≡◌, refl}
use mathlib.Core.List.{List, [], ◌∷◌}
use Prim.Native.Nat.{ℕ, zero, suc, ◌+◌, ◌-◌, ◌≤◌, ◌<◌}
use native.Mathlib.Numerals.{add-one}
use native.Mathlib.Omega.{arith}
use lib.ListN.{length, get_or, take, drop, length-take, get_or-eq_default}
use lib.Seq.{get_or-take, get_or-drop}
use Rattle.text.specs.Page.{Page, Writes}
use Rattle.text.specs.Words.{word_at}
use Rattle.pdu_words.specs.Names.{lists, list_at, vocabulary}

-- lists, each the part of all words from where it begins up to where the next one does
cut : List (List ℕ) → List ℕ → List (List (List ℕ))
cut words [] = []
cut words (b ∷ []) = []
cut words (b ∷ e ∷ bs) = take (e - b) (drop b words) ∷ cut words (e ∷ bs)

cut-is : (words : List (List ℕ)) (bs : List ℕ) (l : ℕ) → get_or (cut words bs) l [] ≡ take (get_or bs (suc l) 0 - get_or bs l 0) (drop (get_or bs l 0) words)
unfolding cut
cut-is words [] l = refl
cut-is words (b ∷ []) zero = let z : 0 - b ≡ 0 = omega arith in rw z
cut-is words (b ∷ []) (suc l) = refl
cut-is words (b ∷ e ∷ bs) zero = refl
cut-is words (b ∷ e ∷ bs) (suc l) = cut-is words (e ∷ bs) l

abbrev pub begins : List ℕ
begins = 0 ∷ 1 ∷ 10 ∷ 14 ∷ 26 ∷ 34 ∷ 42 ∷ 50 ∷ 52 ∷ 54 ∷ 56 ∷ 58 ∷ []

lists-cut : cut vocabulary begins ≡ lists
unfolding cut vocabulary lists
lists-cut = refl

list_is : (l : ℕ) → list_at l ≡ take (get_or begins (l + 1) 0 - get_or begins l 0) (drop (get_or begins l 0) vocabulary)
unfolding list_at
list_is l = rw (← lists-cut, add-one l) (cut-is vocabulary begins l)

-- word n of list l, which begins at word a and ends before word e
module _ (l n a e : ℕ) (from : a ≡ get_or begins l 0) (to : e ≡ get_or begins (l + 1) 0) where
  pub word_in : a + n < e → word_at vocabulary (a + n) ≡ word_at (list_at l) n
  word_in h =
      let g : n < e - a = omega arith in
      rw (list_is l, ← from, ← to, get_or-take (e - a) (drop a vocabulary) n [] g, get_or-drop)

  pub word-past : {p : Page} → e ≤ a + n → Writes p (word_at (list_at l) n) p
  word-past h =
      let g : length (take (e - a) (drop a vocabulary)) ≤ n = omega (arith, length-take (e - a) (drop a vocabulary)) in
      rw (list_is l, ← from, ← to, get_or-eq_default (take (e - a) (drop a vocabulary)) [] g) (record { is = refl })
