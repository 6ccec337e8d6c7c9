-- What the user at an end may do (docs/FLIGHT.md): "LINE is a line of `adsc` or of `adsair`, with `set`, `req` or `user-abort`; with another word, or none, it
-- is refused with 17".
use Rattle.std.specs.Prelude.{Bool, List, [], ◌∷◌, ℕ, ltb, take}
use Rattle.text.specs.Letters.{ascii}
use Rattle.text.specs.Text.{word_end}
use Rattle.text.specs.Words.{found_from, refused_text}
use Rattle.script.specs.Replies.{Reply}
use Rattle.world.specs.World.{World}

abbrev pub user_words : List (List ℕ)
user_words = [] ∷ ascii "set" ∷ ascii "req" ∷ ascii "user-abort" ∷ []

unfoldable pub is_user : List ℕ → Bool
is_user line = ltb 0 (found_from 0 (take (word_end line) line) user_words)

-- the most that an answer to a line has, as at the bench of an end
abbrev pub ANSWER-MOST : ℕ
ANSWER-MOST = 34000

-- a refusal changes nothing
unfoldable pub refused : World → ℕ → Reply World
refused w n = record { box = w; text = refused_text n }
