-- What the trace of a script is, seen by pieces and by lines that are kept in part. Over the definitions alone, for any box. Assumes nothing.
use mathlib.Core.Path.{◌≡◌, refl, sym, ap, ◌∙◌}
use mathlib.Core.Bool.{Bool, true, false}
use mathlib.Core.List.{List, [], ◌∷◌, ◌++◌}
use mathlib.Core.Logic.{⊎_elim}
use Prim.Native.Nat.{ℕ, ◌≤◌, ◌<◌}
use native.Mathlib.Omega.{arith}
use borrow.Author.Tests.{lt-ltb}
use lib.ListN.{length, take, length-take}
use lib.Seq.{take_all}
use Rattle.text.proofs.Laws.{le-or-lt}
use Rattle.text_lines.specs.Lines.{lines_of}
use Rattle.text_lines.specs.Pulls.{left, Pulled-all}
use Rattle.text_lines.proofs.Pieces.{fronts, lines-pieces}
use Rattle.text.specs.Text.{pick}
use Rattle.script.specs.Lines.{heard_line, call_of, parsed_line, is_set}
use Rattle.script.specs.Replies.{Reply, Bench, refused_reply, play_reply, set_reply, line_reply}
use Rattle.script.specs.Trace.{bumped, numbered, answers_from, trace_of}
use Rattle.script.specs.Playing.{counted_on, box_on, Plays}

module _ {Box Call : Type 0} (m : Bench Box Call) where
  -- "lines over 4,096 octets are 17"
  pub over-long : (b : Box) (l : List ℕ) → 4096 < length l → line_reply m b l ≡ refused_reply b 17
  unfolding line_reply play_reply set_reply parsed_line heard_line call_of is_set
  over-long b l h = rw (lt-ltb 4096 (length l) h) (go (m.ready b))
    where
      go : (f : Bool) → pick f (refused_reply b 17) (refused_reply b 17) ≡ refused_reply b 17
      go true = refl
      go false = refl

  reply-cut : (b : Box) (l : List ℕ) → line_reply m b (take 4097 l) ≡ line_reply m b l
  reply-cut b l =
      ⊎_elim
      (λ (short : length l ≤ 4097). ap (line_reply m b) (take_all 4097 l short))
      (λ (long : 4097 < length l).
      let c : 4096 < length (take 4097 l) = rw (length-take 4097 l) (omega arith) in
      over-long b (take 4097 l) c ∙ sym (over-long b l (omega arith)))
      (le-or-lt (length l) 4097)

  -- 4,097 octets of a line are enough: they are answered as the whole line is, however long
  pub says-whole-line : (n : ℕ) (b : Box) (l : List ℕ) → numbered m n b (take 4097 l) ≡ numbered m n b l
  unfolding numbered
  says-whole-line n b l = rw (reply-cut b l)

  says-whole-lines : (n : ℕ) (b : Box) (ls : List (List ℕ)) → answers_from m n b (fronts 4097 ls) ≡ answers_from m n b ls
  says-whole-lines n b [] = refl
  says-whole-lines n b (l ∷ ls) =
      rw (says-whole-line (bumped n) b l) (ap (λ (t : List ℕ). (numbered m (bumped n) b l).text ++ t) (says-whole-lines (bumped n) (numbered m (bumped n) b l).box ls))

  -- however the reads cut the script, the answers to the lines that come of them are its trace
  pub trace-pieces : {script : List ℕ} {ls : List (List ℕ)} → Pulled-all 4097 (left true []) script ls
      → m.begun.text ++ answers_from m 0 m.begun.box ls ≡ trace_of m script
  unfolding trace_of
  trace-pieces {script} {ls} d =
      ap (λ (r : List ℕ). m.begun.text ++ r)
      (ap (λ (k : List (List ℕ)). answers_from m 0 m.begun.box k) (lines-pieces (omega arith) d) ∙ says-whole-lines 0 m.begun.box (lines_of script))

  on-whole-lines : (n : ℕ) (b : Box) (ls : List (List ℕ)) → (counted_on n (fronts 4097 ls) ≡ counted_on n ls) × (box_on m n b (fronts 4097 ls) ≡ box_on m n b ls)
  on-whole-lines n b [] = (refl, refl)
  on-whole-lines n b (l ∷ ls) =
      let k = bumped n in
      let after = (numbered m k b l).box in
      let more = on-whole-lines k after ls in
      (more.0, ap (λ (s : Box). box_on m k s (fronts 4097 ls)) (ap (λ (r : Reply Box). r.box) (says-whole-line k b l)) ∙ more.1)

  -- "end N" counts the lines of the whole script, unless a read failed, and the box has answered each of them
  pub end-counts : {number : ℕ} {box : Box} {failed : Bool} (p : Plays m 4097 (left true []) 0 m.begun.box number box failed) (well : failed ≡ false)
      → (number ≡ counted_on 0 (lines_of (p.all_came well).text)) × (box ≡ box_on m 0 m.begun.box (lines_of (p.all_came well).text))
  end-counts p well =
      let c = p.all_came well in
      let all = lines-pieces (omega arith) c.pulled in
      let whole = on-whole-lines 0 m.begun.box (lines_of c.text) in
      (p.number_is ∙ ap (counted_on 0) all ∙ whole.0, p.box_is ∙ ap (box_on m 0 m.begun.box) all ∙ whole.1)
