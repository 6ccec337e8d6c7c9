-- Tables of words, and the text of a refusal.
use Rattle.std.specs.Prelude.{List, [], ◌∷◌, ◌++◌, ℕ, ◌+◌, ◌-◌, take, drop, get_or}
use Rattle.text.specs.Letters.{ascii}
use Rattle.text.specs.Text.{pick, same_text, decimal}

-- the words of a table: each is the part of its text from where it begins up to where the next one does
abbrev pub words_of : List ℕ → List ℕ → List (List ℕ)
words_of text [] = []
words_of text (b ∷ []) = []
words_of text (b ∷ e ∷ bs) = take (e - b) (drop b text) ∷ words_of text (e ∷ bs)

-- word n, or nothing past the last
abbrev pub word_at : List (List ℕ) → ℕ → List ℕ
word_at words n = get_or words n []

-- the number of the word w among words that are counted from n on; 0 where it is none of them
abbrev pub found_from : ℕ → List ℕ → List (List ℕ) → ℕ
found_from n w [] = 0
found_from n w (x ∷ xs) = pick (same_text w x) n (found_from (n + 1) w xs)

-- 01, "Refusal numbers": `refused N`
unfoldable pub refused_text : ℕ → List ℕ
refused_text n = ascii "refused " ++ decimal n
