-- What `flight` writes (docs/FLIGHT.md, "The output").
use Rattle.std.specs.Prelude.{◌≡◌, Bool, List, [], ◌∷◌, ◌++◌, ℕ, ◌≤◌, length, take}
use Rattle.text.specs.Letters.{ascii}
use Rattle.text.specs.Text.{pick, decimal}
use Rattle.text.specs.Page.{Page, Writes}
use Rattle.text_lines.specs.Lines.{lines_of}
use Rattle.text_lines.specs.declared.input.Ended.{Ended}
use Rattle.script.specs.Replies.{Reply}
use Rattle.script.specs.Trace.{bumped, end_text}
use Rattle.bench.specs.Replies as ground
use Rattle.air_bench.specs.Replies as air
use Rattle.world.specs.World.{World}
use Rattle.delivery.specs.Deliveries.{onto}
use Rattle.flight_line.specs.Lines.{flight_line}
use Rattle.flight_bench.specs.Endings.{states_text}

-- both boxes before their settings, nothing under way, and the first line
unfoldable pub begun : Reply World
begun = record { box = record { ground_end = (ground.begun).box; air = (air.begun).box; under = []; last = 0; taken = 0 }; text = ascii "adsc flight 1\n" }

-- a line's number and its answer, and the world after it
unfoldable pub numbered : ℕ → World → List ℕ → Reply World
numbered n w line = onto (decimal n) (onto (32 ∷ []) (flight_line w n line))

-- the states of both ends, and the end
unfoldable pub ending_text : World → ℕ → List ℕ
ending_text w n = states_text w ++ end_text n

-- the answers of lines that come after n others, and the ending
abbrev pub answers_from : ℕ → World → List (List ℕ) → List ℕ
answers_from n w [] = ending_text w n
answers_from n w (l ∷ ls) = (numbered (bumped n) w l).text ++ answers_from (bumped n) (numbered (bumped n) w l).box ls

-- all that is written for a script
unfoldable pub flight_of : List ℕ → List ℕ
flight_of script = begun.text ++ answers_from 0 begun.box (lines_of script)

-- the most that a line has with its number
abbrev pub ADDED-MOST : ℕ
ADDED-MOST = 65100

-- and that the ending has
abbrev pub ENDING-MOST : ℕ
ENDING-MOST = 2100

-- what the code gives: the number of lines, the world, and the text on the page, which is never long
pub record Adds (p : Page) (n : ℕ) (x : Reply World) (number : ℕ) (w : World) (q : Page) : Type 0 where
  pub number_is : number ≡ n
  pub world_is : w ≡ x.box
  pub text_is : Writes p x.text q
  pub short : length x.text ≤ ADDED-MOST

-- what the code gives at the end: the ending stands behind what stood on the page, unless a read failed
pub record Ends (failed : Bool) (w : World) (n : ℕ) (p : Page) (r : Ended) (out : List ℕ) : Type 0 where
  pub failed_is : r.failed ≡ failed
  pub text_is : take r.at out ≡ take p.at p.octets ++ pick failed [] (ending_text w n)
