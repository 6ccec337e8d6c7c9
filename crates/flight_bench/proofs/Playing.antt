-- The turns of the player. Assumes nothing.
use mathlib.Core.Path.{◌≡◌, refl}
use mathlib.Core.Bool.{Bool, true, false}
use mathlib.Core.List.{List, [], ◌∷◌, ◌++◌}
use Prim.Native.Nat.{ℕ, ◌<◌}
use native.Mathlib.Omega.{arith}
use Rattle.text_lines.specs.Pulls.{Left, Brought, none, one}
use Rattle.script.specs.Trace.{bumped}
use Rattle.world.specs.World.{World}
use Rattle.flight_line.specs.Lines.{flight_line}
use Rattle.flight_bench.specs.Trace.{numbered}
use Rattle.flight_bench.specs.Playing.{Plays}

-- no line more
pub plays-none : {most : ℕ} {a b : Left} {l : List ℕ} {n : ℕ} {s : World} {at : ℕ} {found failed : Bool} → found ≡ false → (failed ≡ false → Brought most [] a l found b)
    → at < 65536 → Plays most a n s n s at failed
plays-none {most} {a} {b} {l} e d h = record {
  lines = [];
  number_is = refl;
  world_is = refl;
  all_came = λ well. let g : Brought most [] a l false b = rw e at (d well) in record { text = g.text; pulled = none g.pulled };
  room = λ well. h;
}

-- the run is given up
pub plays-failed : {most : ℕ} {a : Left} {n at : ℕ} {s : World} → Plays most a n s n s at true
plays-failed = record { lines = []; number_is = refl; world_is = refl; all_came = λ well. let y : ◌≡◌ {A = ℕ} 0 1 = cc in absurd (omega arith); room = λ well. let y : ◌≡◌ {A = ℕ} 0 1 = cc in absurd (omega arith) }

-- a line, and what follows it
pub plays-line : {most : ℕ} {a b : Left} {l : List ℕ} {n k : ℕ} {s u : World} {number at : ℕ} {world : World} {failed : Bool} → Brought most [] a l true b
    → k ≡ bumped n → u ≡ (numbered (bumped n) s l).box → Plays most b k u number world at failed → Plays most a n s number world at failed
unfolding numbered
plays-line {most} {a} {b} {l} {n} {k} {s} {u} {number} {at} {world} {failed} d e f p =
    let q : Plays most b (bumped n) (flight_line s (bumped n) l).box number world at failed = rw (e, f) at p in
    record {
      lines = l ∷ q.lines;
      number_is = q.number_is;
      world_is = q.world_is;
      all_came = λ well. let c = q.all_came well in record { text = d.text ++ c.text; pulled = one d.pulled c.pulled };
      room = q.room;
    }
