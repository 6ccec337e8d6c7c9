-- A line of a flight script and the answer to it (docs/FLIGHT.md, "The script").
use Rattle.std.specs.Prelude.{◌≡◌, Bool, true, false, List, [], ◌∷◌, ◌++◌, ℕ, ◌+◌, ◌≤◌, eqb, leb, ltb, length, take, drop}
use Rattle.refusals.specs.Refusals.{SCRIPT-LINE}
use Rattle.text.specs.Letters.{ascii}
use Rattle.text.specs.Text.{pick, both, word_end}
use Rattle.text.specs.Words.{found_from}
use Rattle.std.specs.Prelude.{Option, Some, None}
use Rattle.script.specs.Fields.{number_after}
use Rattle.script.specs.Replies.{Reply}
use Rattle.script.specs.Trace.{bumped}
use Rattle.channel.specs.declared.Channel.{Channel}
use Rattle.channel.specs.Channel.{held_in, slots}
use Rattle.world.specs.World.{World}
use Rattle.delivery.specs.Deliveries.{onto, carried}
use Rattle.flight_line.specs.Users.{refused}
use Rattle.flight_line.specs.GroundUsers.{ground_user}
use Rattle.flight_line.specs.AirUsers.{air_user}
use Rattle.flight_line.specs.Boths.{elapse_reply, cut_reply}

-- the most that a line has, with the lines for what came or was thrown away
abbrev pub LINE-MOST : ℕ
LINE-MOST = 65000

-- the end of a line
unfoldable pub ended : Reply World → Reply World
ended r = record { box = r.box; text = r.text ++ (10 ∷ []) }

unfoldable pub refused_line : World → Reply World
refused_line w = ended (refused w SCRIPT-LINE)

unfoldable pub both_ready : World → Bool
both_ready w = both w.ground_end.ready w.air.ready

-- LINE of `ground LINE` and `air LINE`
unfoldable pub rest_of : List ℕ → List ℕ
rest_of line = drop (word_end line + 1) line

unfoldable pub ground_line : World → List ℕ → Reply World
ground_line w line = ended (onto (ascii "ground ") (ground_user w (rest_of line)))

unfoldable pub air_line : World → List ℕ → Reply World
air_line w line = ended (onto (ascii "air ") (air_user w (rest_of line)))

-- `elapse N`
unfoldable pub elapse_line : World → Option ℕ → Reply World
elapse_line w (Some n) = pick (both_ready w) (ended (elapse_reply w n)) (refused_line w)
elapse_line w None = refused_line w

-- what `under_way` gives: how many letters there are, which is no more than there are slots
pub record UnderWay (c : Channel) (r : ℕ) : Type 0 where
  pub is : r ≡ length (held_in c)
  pub most : r ≤ slots

-- of how many `deliver` and `lose` speak: all that is under way, or N; 0 where N is more than that or is no number
unfoldable pub count_of : ℕ → Option ℕ → ℕ
count_of have (Some n) = pick (leb n have) n 0
count_of have None = 0

unfoldable pub count_in : ℕ → List ℕ → ℕ
count_in have tail = pick (eqb (length tail) 0) have (count_of have (number_after tail))

unfoldable pub carry_count : World → ℕ → Bool → ℕ → Reply World
carry_count w number hear k = pick (eqb k 0) (refused_line w) (onto (ascii "ok\n") (carried hear k number 0 w))

-- `deliver`, `deliver N`, `lose`, `lose N`
unfoldable pub carry_line : World → ℕ → List ℕ → Bool → Reply World
carry_line w number tail hear = pick (both_ready w) (carry_count w number hear (count_in (length w.under) tail)) (refused_line w)

-- what was under way is thrown away
unfoldable pub then_lost : ℕ → Reply World → Reply World
then_lost number r = onto r.text (carried false (length r.box.under) number 0 r.box)

-- `cut`
unfoldable pub cut_line : World → ℕ → List ℕ → Reply World
cut_line w number tail = pick (eqb (length tail) 0) (pick (both_ready w) (then_lost number (ended (cut_reply w))) (refused_line w)) (refused_line w)

-- the words, from 1 on
abbrev pub flight_words : List (List ℕ)
flight_words = [] ∷ ascii "ground" ∷ ascii "air" ∷ ascii "elapse" ∷ ascii "deliver" ∷ ascii "lose" ∷ ascii "cut" ∷ []

unfoldable pub other_line : World → ℕ → ℕ → List ℕ → Reply World
other_line w number k tail =
    pick (eqb k 3) (elapse_line w (number_after tail))
    (pick (eqb k 4) (carry_line w number tail true)
    (pick (eqb k 5) (carry_line w number tail false)
    (pick (eqb k 6) (cut_line w number tail) (refused_line w))))

unfoldable pub flight_as : World → ℕ → List ℕ → ℕ → Reply World
flight_as w number line k =
    pick (eqb k 1) (ground_line w line) (pick (eqb k 2) (air_line w line) (other_line w number k (drop (word_end line) line)))

-- the answer to the line with a number, with its end, and the lines for what came or was thrown away
unfoldable pub flight_line : World → ℕ → List ℕ → Reply World
flight_line w number line =
    pick (ltb 4096 (length line)) (refused_line w) (flight_as w number line (found_from 0 (take (word_end line) line) flight_words))

-- the world after some lines, which come after n others
abbrev pub world_on : ℕ → World → List (List ℕ) → World
world_on n w [] = w
world_on n w (l ∷ ls) = world_on (bumped n) (flight_line w (bumped n) l).box ls
