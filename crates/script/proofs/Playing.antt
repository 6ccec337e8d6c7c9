-- The turns of a player, as laws for any box. Assumes nothing.
use mathlib.Core.Path.{◌≡◌, refl, sym, ap, ◌∙◌}
use mathlib.Core.Bool.{Bool, true, false}
use mathlib.Core.List.{List, [], ◌∷◌, ◌++◌}
use Prim.Native.Nat.{ℕ}
use native.Mathlib.Omega.{arith}
use lib.ListN.{take}
use Rattle.text.proofs.Laws.{take_min}
use Rattle.text_lines.specs.Inputs.{Shows}
use Rattle.text_lines.specs.Pulls.{Left, Brought, none, one}
use Rattle.script.specs.Replies.{Bench}
use Rattle.script.specs.Trace.{bumped, numbered}
use Rattle.script.specs.Playing.{Plays}

module _ {Box Call : Type 0} (m : Bench Box Call) where
  -- no line more
  pub plays-none : {most : ℕ} {a b : Left} {l : List ℕ} {n : ℕ} {s : Box} {found failed : Bool} → found ≡ false → (failed ≡ false → Brought most [] a l found b)
      → Plays m most a n s n s failed
  plays-none {most} {a} {b} {l} e d = record {
    lines = [];
    number_is = refl;
    box_is = refl;
    all_came = λ well. let g : Brought most [] a l false b = rw e at (d well) in record { text = g.text; pulled = none g.pulled };
  }

  -- the run is given up
  pub plays-failed : {most : ℕ} {a : Left} {n : ℕ} {s : Box} → Plays m most a n s n s true
  plays-failed = record { lines = []; number_is = refl; box_is = refl; all_came = λ well. let y : ◌≡◌ {A = ℕ} 0 1 = cc in absurd (omega arith) }

  -- a line, and what follows it
  pub plays-line : {most : ℕ} {a b : Left} {l : List ℕ} {n k : ℕ} {s u : Box} {number : ℕ} {box : Box} {failed : Bool} → Brought most [] a l true b
      → k ≡ bumped n → u ≡ (numbered m (bumped n) s l).box → Plays m most b k u number box failed → Plays m most a n s number box failed
  plays-line {most} {a} {b} {l} {n} {k} {s} {u} {number} {box} {failed} d e f p =
      let q : Plays m most b (bumped n) (numbered m (bumped n) s l).box number box failed = rw (e, f) at p in
      record {
        lines = l ∷ q.lines;
        number_is = q.number_is;
        box_is = q.box_is;
        all_came = λ well. let c = q.all_came well in record { text = d.text ++ c.text; pulled = one d.pulled c.pulled };
      }

-- a line that is found was read well
pub well-found : {failed found : Bool} → (failed ≡ true → found ≡ false) → found ≡ true → failed ≡ false
well-found {failed} {found} h e = go failed refl
  where
    go : (b : Bool) → failed ≡ b → b ≡ false
    go true f = sym e ∙ h f
    go false f = refl

-- what is handed on of a line is what is kept of it
pub shown-line : {n at : ℕ} {line : List ℕ} → Shows at line n → take n line ≡ take at line
shown-line {n} {at} {line} s = ap (λ (k : ℕ). take k line) s.is ∙ take_min at line
