-- The trace of a script (01, "Bench examples"): a first line, the answers of its lines in order, and how many there are. Over any box.
use Rattle.std.specs.Prelude.{◌≡◌, Bool, List, [], ◌∷◌, ◌++◌, ℕ, ◌+◌, ◌≤◌, ltb, length, take}
use Rattle.text.specs.Letters.{ascii}
use Rattle.text.specs.Text.{pick, decimal}
use Rattle.text.specs.Page.{Page, page, Writes}
use Rattle.text_lines.specs.Lines.{lines_of}
use Rattle.text_lines.specs.declared.input.Ended.{Ended}
use Rattle.script.specs.Replies.{Reply, Bench, line_reply}

-- C47: "line numbers stop at 2^64 - 1"
unfoldable pub bumped : ℕ → ℕ
bumped n = pick (ltb n 18446744073709551615) (n + 1) n

-- C38: "N counts all lines, refused ones too"
unfoldable pub end_text : ℕ → List ℕ
end_text n = ascii "end " ++ (decimal n ++ (10 ∷ []))

module _ {Box Call : Type 0} (m : Bench Box Call) where
  -- a line's number, its answer and the end; and the box after it
  unfoldable pub numbered : ℕ → Box → List ℕ → Reply Box
  numbered n b line =
      record { box = (line_reply m b line).box; text = decimal n ++ ((32 ∷ []) ++ ((line_reply m b line).text ++ (10 ∷ []))) }

  -- the answers of lines that come after n others, and the end
  abbrev pub answers_from : ℕ → Box → List (List ℕ) → List ℕ
  answers_from n b [] = end_text n
  answers_from n b (l ∷ ls) = (numbered (bumped n) b l).text ++ answers_from (bumped n) (numbered (bumped n) b l).box ls

  -- the trace of a whole script
  unfoldable pub trace_of : List ℕ → List ℕ
  trace_of script = m.begun.text ++ answers_from 0 m.begun.box (lines_of script)

-- what the code gives: the number of lines, the box, and the text on the page, which is never long
pub record Adds {Box : Type 0} (p : Page) (n : ℕ) (x : Reply Box) (number : ℕ) (b : Box) (q : Page) : Type 0 where
  pub number_is : number ≡ n
  pub box_is : b ≡ x.box
  pub text_is : Writes p x.text q
  pub short : length x.text ≤ 34100

-- the same on a page that has room, by what stands before the pen
pub record Stands {Box : Type 0} (p : Page) (n : ℕ) (x : Reply Box) (number : ℕ) (b : Box) (q : Page) : Type 0 where
  pub number_is : number ≡ n
  pub box_is : b ≡ x.box
  pub text_is : take q.at q.octets ≡ take p.at p.octets ++ x.text

-- what `close` gives: the last line stands there only if the script was read to its end
pub record Closes (n : ℕ) (failed : Bool) (p : Page) (r : Ended) (out : List ℕ) : Type 0 where
  pub failed_is : r.failed ≡ failed
  pub text_is : Writes p (pick failed [] (end_text n)) (page out r.at)
