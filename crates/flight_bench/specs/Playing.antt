-- What the lines of an input leave: each is answered in its turn. A contract cannot say what the reads bring.
use Rattle.std.specs.Prelude.{◌≡◌, Bool, false, List, ℕ, ◌<◌}
use Rattle.text_lines.specs.Pulls.{Left}
use Rattle.script.specs.Playing.{counted_on, Came}
use Rattle.world.specs.World.{World}
use Rattle.flight_line.specs.Lines.{world_on}

-- what the player gives from n lines and the world w on: some lines are answered, all there are unless a read failed, and then the page has room for the end
pub record Plays (most : ℕ) (from : Left) (n : ℕ) (w : World) (number : ℕ) (world : World) (at : ℕ) (failed : Bool) : Type 0 where
  pub lines : List (List ℕ)
  pub number_is : number ≡ counted_on n lines
  pub world_is : world ≡ world_on n w lines
  pub all_came : failed ≡ false → Came most from lines
  pub room : failed ≡ false → at < 65536
