-- What the lines of an input leave: each is answered in its turn (01, "Bench examples"). A contract cannot say what the reads bring. Over any box.
use Rattle.std.specs.Prelude.{◌≡◌, Bool, false, List, [], ◌∷◌, ℕ}
use Rattle.text_lines.specs.Pulls.{Left, Pulled-all}
use Rattle.script.specs.Replies.{Bench}
use Rattle.script.specs.Trace.{bumped, numbered}

-- how many lines are answered after some more of them
abbrev pub counted_on : ℕ → List (List ℕ) → ℕ
counted_on n [] = n
counted_on n (l ∷ ls) = counted_on (bumped n) ls

-- and the box then
abbrev pub box_on : {Box Call : Type 0} → Bench Box Call → ℕ → Box → List (List ℕ) → Box
box_on m n b [] = b
box_on m n b (l ∷ ls) = box_on m (bumped n) (numbered m (bumped n) b l).box ls

-- lines that some text or other brings, all of them
pub record Came (most : ℕ) (from : Left) (ls : List (List ℕ)) : Type 0 where
  pub text : List ℕ
  pub pulled : Pulled-all most from text ls

-- what a player gives from n lines and the box b on: some lines are answered, all there are unless a read failed
pub record Plays {Box Call : Type 0} (m : Bench Box Call) (most : ℕ) (from : Left) (n : ℕ) (b : Box) (number : ℕ) (box : Box) (failed : Bool) : Type 0 where
  pub lines : List (List ℕ)
  pub number_is : number ≡ counted_on n lines
  pub box_is : box ≡ box_on m n b lines
  pub all_came : failed ≡ false → Came most from lines
