-- How long the answer to a line is, and that it stands whole on a page that has room. Assumes nothing.
use mathlib.Core.List.{List, [], ◌∷◌, ◌++◌}
use Prim.Native.Nat.{ℕ, ◌+◌, ◌≤◌}
use native.Mathlib.Omega.{arith}
use lib.ListN.{length, length-append}
use Rattle.text.specs.Text.{decimal}
use Rattle.text.specs.Page.{Page}
use Rattle.text.proofs.Laws.{decimal-length}
use Rattle.text.proofs.Pages.{stands}
use Rattle.script.specs.Replies.{Reply, Bench, line_reply}
use Rattle.script.specs.Trace.{numbered, Adds, Stands}

pub numbered-length : {Box Call : Type 0} (m : Bench Box Call) (n : ℕ) (b : Box) (line : List ℕ) → length (line_reply m b line).text ≤ 34000
    → length (numbered m n b line).text ≤ 34100
unfolding numbered
numbered-length m n b line h =
    omega (arith, length-append (decimal n) ((32 ∷ []) ++ ((line_reply m b line).text ++ (10 ∷ []))), length-append (line_reply m b line).text (10 ∷ []), decimal-length n)

pub added-stands : {Box : Type 0} {p q : Page} {n number : ℕ} {x : Reply Box} {b : Box} → p.at + 34100 ≤ length p.octets → Adds p n x number b q
    → Stands p n x number b q
added-stands {Box} {p} {q} {n} {number} {x} h a =
    let s = a.short in
    record { number_is = a.number_is; box_is = a.box_is; text_is = stands p.octets q.octets p.at q.at x.text (omega arith) a.text_is }
