-- "a line for each thing that came or was thrown away, numbered from 1 behind the line's number: the end that it was for, what that end hears, in the words of
-- its script, and what came of it" (docs/FLIGHT.md).
use Rattle.std.specs.Prelude.{◌≡◌, Bool, List, [], ◌∷◌, ◌++◌, ℕ, zero, suc, ◌+◌, ◌≤◌, length, drop}
use Rattle.text.specs.Letters.{ascii}
use Rattle.text.specs.Text.{pick, decimal}
use Rattle.text.specs.Words.{word_at}
use Rattle.text.specs.Page.{Page, Writes}
use Rattle.script.specs.Entries.{spaced}
use Rattle.script.specs.Replies.{Reply}
use Rattle.channel.specs.declared.Letter.{Letter}
use Rattle.channel.specs.Channel.{oldest_of}
use Rattle.world.specs.World.{World}
use Rattle.delivery.specs.Hearing.{Carried, came, comes}

-- by the kind of a letter, first what the aircraft hears and then what the ground does
abbrev pub heard_words : List (List ℕ)
heard_words =
    [] ∷ ascii " air start-ind" ∷ ascii " air data" ∷ ascii " air end-ind" ∷ ascii " air ground-abort" ∷ ascii " air peer-abort" ∷ ascii " ground start-cnf"
    ∷ ascii " ground data" ∷ ascii " ground end-cnf" ∷ ascii " ground air-abort" ∷ ascii " ground peer-abort" ∷ []

unfoldable pub word_for : Letter → ℕ
word_for l = pick l.up l.kind (l.kind + 5)

unfoldable pub head_text : ℕ → ℕ → Letter → List ℕ
head_text number i l =
    decimal number ++ ((46 ∷ []) ++ (decimal i ++ (word_at heard_words (word_for l) ++ (spaced (came l) ++ (32 ∷ [])))))

-- the world without the oldest letter
unfoldable pub without : World → World
without w = record { ground_end = w.ground_end; air = w.air; under = drop 1 w.under; last = w.last; taken = w.taken }

unfoldable pub carried_with : World → List ℕ → Carried → Carried
carried_with w head x = record { world = pick x.stays w x.world; text = head ++ (x.text ++ (10 ∷ [])); stays = x.stays }

-- the oldest letter
unfoldable pub carried_one : Bool → ℕ → ℕ → World → Carried
carried_one hear number i w = let l = oldest_of w.under in carried_with w (head_text number i l) (comes hear (without w) l)

abbrev pub onto : List ℕ → Reply World → Reply World
onto t r = record { box = r.box; text = t ++ r.text }

-- the oldest k letters, of which i are named already; "the line's deliveries end there" where one stays
abbrev pub carried : Bool → ℕ → ℕ → ℕ → World → Reply World
carried hear zero number i w = record { box = w; text = [] }
carried hear (suc k) number i w =
    let c = carried_one hear number (i + 1) w in
    onto c.text (pick c.stays (record { box = c.world; text = [] }) (carried hear k number (i + 1) c.world))

-- the most that a line for a letter has
abbrev pub LETTER-MOST : ℕ
LETTER-MOST = 2500

-- what the code gives: the world, and the text on the page, which has at most so many octets
pub record Flies (most : ℕ) (x : Reply World) (p : Page) (w : World) (q : Page) : Type 0 where
  pub world_is : w ≡ x.box
  pub text_is : Writes p x.text q
  pub short : length x.text ≤ most
