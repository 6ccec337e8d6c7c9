-- What is written for a script, seen by pieces and by lines that are kept in part. Over the definitions alone. Assumes nothing.
use mathlib.Core.Path.{◌≡◌, refl, ap, ◌∙◌}
use mathlib.Core.Bool.{true}
use mathlib.Core.List.{List, [], ◌∷◌, ◌++◌}
use Prim.Native.Nat.{ℕ}
use native.Mathlib.Omega.{arith}
use lib.ListN.{take}
use Rattle.text.specs.Text.{decimal, word_end}
use Rattle.text.specs.Words.{found_from}
use Rattle.text.proofs.Lengths.{kept-enough}
use Rattle.text_lines.specs.Lines.{lines_of}
use Rattle.text_lines.specs.Pulls.{left, Pulled-all}
use Rattle.text_lines.proofs.Pieces.{fronts, lines-pieces}
use Rattle.script.specs.Replies.{Reply}
use Rattle.script.specs.Trace.{bumped}
use Rattle.world.specs.World.{World}
use Rattle.delivery.specs.Deliveries.{onto}
use Rattle.flight_line.specs.Lines.{refused_line, flight_words, flight_as, flight_line}
use Rattle.flight_bench.specs.Trace.{begun, numbered, answers_from, flight_of}

-- 4,097 octets of a line are enough: they are answered as the whole line is, however long
pub says-whole-line : (n : ℕ) (w : World) (l : List ℕ) → numbered n w (take 4097 l) ≡ numbered n w l
unfolding numbered flight_line
says-whole-line n w l =
    ap (λ (r : Reply World). onto (decimal n) (onto (32 ∷ []) r))
    (kept-enough (refused_line w) (λ (k : List ℕ). flight_as w n k (found_from 0 (take (word_end k) k) flight_words)) l)

says-whole-lines : (n : ℕ) (w : World) (ls : List (List ℕ)) → answers_from n w (fronts 4097 ls) ≡ answers_from n w ls
says-whole-lines n w [] = refl
says-whole-lines n w (l ∷ ls) =
    rw (says-whole-line (bumped n) w l) (ap (λ (t : List ℕ). (numbered (bumped n) w l).text ++ t) (says-whole-lines (bumped n) (numbered (bumped n) w l).box ls))

-- however the reads cut the script, the answers to the lines that come of them are what is written for it
pub flight-pieces : {script : List ℕ} {ls : List (List ℕ)} → Pulled-all 4097 (left true []) script ls → begun.text ++ answers_from 0 begun.box ls ≡ flight_of script
unfolding flight_of
flight-pieces {script} {ls} d =
    ap (λ (r : List ℕ). begun.text ++ r)
    (ap (λ (k : List (List ℕ)). answers_from 0 begun.box k) (lines-pieces (omega arith) d) ∙ says-whole-lines 0 begun.box (lines_of script))
