-- "nothing is ever lost but by `lose` and `cut`" (docs/FLIGHT.md): where no more than 16 are under way after an answer, and else it is refused, all that it sends
-- stands behind what was under way.
use Rattle.std.specs.Prelude.{◌≡◌, Bool, List, [], ◌∷◌, ◌++◌, ℕ, ◌≤◌, length, take}
use Rattle.text.specs.Text.{pick}
use Rattle.script.specs.Entries.{goes, rest_of}
use Rattle.channel.specs.declared.Letter.{Letter}
use Rattle.channel.specs.Channel.{letter_of}
use Rattle.sending.specs.Ways.{Way, kind_of, number_for, sent_all}
use Rattle.world.specs.World.{MOST}

-- the letters for the entries of a list, where the first k of the octets are still to go, of the dialogue with the number n
abbrev pub letters_of : Bool → ℕ → List ℕ → List ℕ → ℕ → List Letter
letters_of up n [] s k = []
letters_of up n (c ∷ cs) s k =
    pick (goes c)
    (letter_of up (number_for up c n) (kind_of c (take k s)) (take k s) ∷ letters_of up (number_for up c n) cs s (rest_of c k))
    (letters_of up n cs s (rest_of c k))

abbrev pub AllSent : Type 0
AllSent = (up : Bool) (w : Way) (es s : List ℕ) (k : ℕ) → length (sent_all up w es s k).under ≤ MOST
    → (sent_all up w es s k).under ≡ w.under ++ letters_of up w.number es s k
