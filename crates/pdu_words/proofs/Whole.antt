-- The answers to the lines of an input, of which 4,097 octets each are kept, however the reads cut it. Over the definitions alone. Assumes nothing.
use mathlib.Core.Path.{◌≡◌, refl, ap, ◌∙◌}
use mathlib.Core.Bool.{true}
use mathlib.Core.List.{List, [], ◌∷◌, ◌++◌}
use Prim.Native.Nat.{ℕ}
use native.Mathlib.Omega.{arith}
use lib.ListN.{take, drop}
use Rattle.text.specs.Text.{word_end}
use Rattle.text.proofs.Lengths.{kept-enough}
use Rattle.text_lines.specs.Lines.{lines_of}
use Rattle.text_lines.specs.Pulls.{left, Pulled-all}
use Rattle.text_lines.proofs.Pieces.{fronts, lines-pieces}
use Rattle.pdu_words.specs.LineText.{refused_line, tail_text, line_text, answer_text, answers_of}
use Rattle.pdu_words.specs.declared.lines.Task.{Task}

-- what is kept of a line is answered as the whole line is, however long
pub answers-whole-line : (t : Task) (l : List ℕ) → answer_text t (take 4097 l) ≡ answer_text t l
unfolding answer_text line_text
answers-whole-line t l =
    ap (λ (r : List ℕ). r ++ (10 ∷ [])) (kept-enough (refused_line t 17) (λ k. tail_text t (take (word_end k) k) (drop (word_end k) k)) l)

answers-whole-lines : (t : Task) (ls : List (List ℕ)) → answers_of t (fronts 4097 ls) ≡ answers_of t ls
answers-whole-lines t [] = refl
answers-whole-lines t (l ∷ ls) = rw (answers-whole-line t l) (ap (λ (r : List ℕ). answer_text t l ++ r) (answers-whole-lines t ls))

-- the answers to the lines that the reads bring are those to the lines of the input
pub answers_pieces : {s : List ℕ} {ls : List (List ℕ)} (t : Task) → Pulled-all 4097 (left true []) s ls → answers_of t ls ≡ answers_of t (lines_of s)
answers_pieces {s} {ls} t d = ap (answers_of t) (lines-pieces (omega arith) d) ∙ answers-whole-lines t (lines_of s)
