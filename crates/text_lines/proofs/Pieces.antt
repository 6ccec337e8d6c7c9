-- However a text comes in pieces, the gatherer finds its lines. Over the definitions alone. Assumes nothing.
use mathlib.Core.Path.{◌≡◌, refl, sym, ap, ◌∙◌}
use mathlib.Core.Bool.{Bool, true, false}
use mathlib.Core.List.{List, [], ◌∷◌, ◌++◌, append_assoc, append-nil}
use Prim.Native.Nat.{ℕ, zero, suc, ◌<◌}
use native.Mathlib.Omega.{arith}
use lib.Dec.{eqb, ltb}
use borrow.Author.Tests.{lt-ltb}
use lib.ListN.{length, take, drop}
use lib.Seq.{take-nil}
use Rattle.text.specs.Text.{pick}
use Rattle.text_lines.specs.Lines.{front, before, last_of, lines_from, lines_of, gathered}
use Rattle.text_lines.specs.Pulls.{Left, left, Pulled, ends, goes_on, closes, stops, Pulled-all, none, one}

-- the front of each line
abbrev pub fronts : ℕ → List (List ℕ) → List (List ℕ)
fronts most [] = []
fronts most (l ∷ ls) = take most l ∷ fronts most ls

-- a line that ends in a piece
ended-lines : (k p rest : List ℕ) → (gathered p).ended ≡ true
    → lines_from k (p ++ rest) ≡ (k ++ (gathered p).octets) ∷ lines_from [] (drop (gathered p).used p ++ rest)
ended-lines k [] rest e = let z : ◌≡◌ {A = ℕ} 0 1 = cc in absurd (omega arith)
ended-lines k (o ∷ os) rest e = go (eqb o 10) (ended-lines (k ++ (o ∷ [])) os rest) e
  where
    go : (f : Bool)
        → ((gathered os).ended ≡ true → lines_from (k ++ (o ∷ [])) (os ++ rest) ≡ ((k ++ (o ∷ [])) ++ (gathered os).octets) ∷ lines_from [] (drop (gathered os).used os ++ rest))
        → (pick f (front [] 1 true) (before o (gathered os))).ended ≡ true
        → pick f (k ∷ lines_from [] (os ++ rest)) (lines_from (k ++ (o ∷ [])) (os ++ rest))
        ≡ (k ++ (pick f (front [] 1 true) (before o (gathered os))).octets) ∷ lines_from [] (drop (pick f (front [] 1 true) (before o (gathered os))).used (o ∷ os) ++ rest)
    go true more e = rw append-nil
    go false more e = more e ∙ rw (append_assoc k (o ∷ []) (gathered os).octets)

-- a line that goes on
open-lines : (k p rest : List ℕ) → (gathered p).ended ≡ false → lines_from k (p ++ rest) ≡ lines_from (k ++ (gathered p).octets) rest
open-lines k [] rest e = rw append-nil
open-lines k (o ∷ os) rest e = go (eqb o 10) (open-lines (k ++ (o ∷ [])) os rest) e
  where
    go : (f : Bool) → ((gathered os).ended ≡ false → lines_from (k ++ (o ∷ [])) (os ++ rest) ≡ lines_from ((k ++ (o ∷ [])) ++ (gathered os).octets) rest)
        → (pick f (front [] 1 true) (before o (gathered os))).ended ≡ false
        → pick f (k ∷ lines_from [] (os ++ rest)) (lines_from (k ++ (o ∷ [])) (os ++ rest)) ≡ lines_from (k ++ (pick f (front [] 1 true) (before o (gathered os))).octets) rest
    go true more e = let z : ◌≡◌ {A = ℕ} 0 1 = cc in absurd (omega arith)
    go false more e = more e ∙ rw (append_assoc k (o ∷ []) (gathered os).octets)

-- what is dropped of a line stays dropped
take_again : (most : ℕ) (k t : List ℕ) → take most (take most k ++ t) ≡ take most (k ++ t)
take_again zero k t = refl
take_again (suc m) [] t = refl
take_again (suc m) (x ∷ k) t = ap (λ (l : List ℕ). x ∷ l) (take_again m k t)

last_line : (most : ℕ) (k : List ℕ) → 0 < most → last_of (take most k) ≡ fronts most (last_of k)
last_line zero k h = absurd (omega arith)
last_line (suc m) [] h = refl
last_line (suc m) (x ∷ k) h = refl

-- nothing is left of a piece in which no line ends
nothing_left : (p : List ℕ) → (gathered p).ended ≡ false → drop (gathered p).used p ≡ []
nothing_left [] e = refl
nothing_left (o ∷ os) e = go (eqb o 10) (nothing_left os) e
  where
    go : (f : Bool) → ((gathered os).ended ≡ false → drop (gathered os).used os ≡ []) → (pick f (front [] 1 true) (before o (gathered os))).ended ≡ false
        → drop (pick f (front [] 1 true) (before o (gathered os))).used (o ∷ os) ≡ []
    go true more e = let z : ◌≡◌ {A = ℕ} 0 1 = cc in absurd (omega arith)
    go false more e = more e

last-is : (l : List ℕ) → last_of l ≡ pick (ltb 0 (length l)) (l ∷ []) []
last-is [] = refl
last-is (x ∷ l) = rw (lt-ltb 0 (length (x ∷ l)) (omega arith))

-- what one pull says of the lines of the text from there on; k is the line so far, whole
pub data Says (most : ℕ) (k : List ℕ) (a : Left) (t l : List ℕ) (f : Bool) (b : Left) : Type 0 where
  ended : (w : List ℕ) → l ≡ take most w → f ≡ true → ((rest : List ℕ) → lines_from k (a.piece ++ (t ++ rest)) ≡ w ∷ lines_from [] (b.piece ++ rest)) → Says most k a t l f b
  stopped : b ≡ left false [] → fronts most (lines_from k (a.piece ++ t)) ≡ pick f (l ∷ []) [] → Says most k a t l f b

says : {most : ℕ} {kept t l : List ℕ} {f : Bool} {a b : Left} (k : List ℕ) → 0 < most → kept ≡ take most k → Pulled most kept a t l f b → Says most k a t l f b
says {most} k h e (ends {kept} {p} {m} g) =
    ended (k ++ (gathered p).octets) (rw e (take_again most k (gathered p).octets)) refl (λ rest. ended-lines k p rest g)
says {most} {f = f} {b = b} k h e (goes_on {kept} {p} {text} {line} next g d) = go (says (k ++ (gathered p).octets) h (rw e (take_again most k (gathered p).octets)) d)
  where
    go : Says most (k ++ (gathered p).octets) next text line f b → Says most k (left true p) (next.piece ++ text) line f b
    go (ended w q y z) = ended w q y (λ rest. open-lines k p ((next.piece ++ text) ++ rest) g ∙ rw (append_assoc next.piece text rest) (z rest))
    go (stopped q z) = stopped q (rw (open-lines k p (next.piece ++ text) g) z)
says {most} {f = f} {b = b} k h e (closes {kept} {p} {text} {line} d) = go (says k h e d)
  where
    go : Says most k (left false p) text line f b → Says most k (left true p) text line f b
    go (ended w q y z) = ended w q y z
    go (stopped q z) = stopped q z
says {most} k h e (stops {kept} {p} g) =
    let w : take most (k ++ (gathered p).octets) ≡ take most (kept ++ (gathered p).octets) = rw e (sym (take_again most k (gathered p).octets)) in
    stopped (ap (left false) (nothing_left p g))
    (rw (open-lines k p [] g) (sym (last_line most (k ++ (gathered p).octets) h) ∙ rw w (last-is (take most (kept ++ (gathered p).octets)))))

apart : true ≡ false → ⊥
apart q = let z : ◌≡◌ {A = ℕ} 0 1 = cc in omega arith

-- a closed input of which nothing is left brings nothing
shut-pull : {most : ℕ} {kept t l : List ℕ} {f : Bool} {a b : Left} → kept ≡ [] → a ≡ left false [] → Pulled most kept a t l f b → (t ≡ []) × (f ≡ false)
shut-pull k e (ends {kept} {p} {m} g) = absurd (apart (sym g ∙ ap (λ (z : Left). (gathered z.piece).ended) e))
shut-pull k e (goes_on {kept} {p} next g d) = absurd (apart (ap (λ (z : Left). z.more) e))
shut-pull k e (closes {kept} {p} d) = absurd (apart (ap (λ (z : Left). z.more) e))
shut-pull {most} k e (stops {kept} {p} g) =
    let n : p ≡ [] = ap (λ (z : Left). z.piece) e in
    (refl, rw (n, k, take-nil most))

shut_none : {most : ℕ} {t : List ℕ} {ls : List (List ℕ)} {a : Left} → a ≡ left false [] → Pulled-all most a t ls → (t ≡ []) × (ls ≡ [])
shut_none e (none d) = ((shut-pull refl e d).0, refl)
shut_none e (one d ds) = absurd (apart (shut-pull refl e d).1)

-- however the reads cut the text, its lines come, as far as they are kept
from-left : {most : ℕ} {a : Left} {t : List ℕ} {ls : List (List ℕ)} → 0 < most → Pulled-all most a t ls → ls ≡ fronts most (lines_from [] (a.piece ++ t))
from-left {most} h (none {a} {b} {t} {l} d) = go (says [] h (sym (take-nil most)) d)
  where
    go : Says most [] a t l false b → [] ≡ fronts most (lines_from [] (a.piece ++ t))
    go (ended w q y z) = absurd (apart (sym y))
    go (stopped q z) = sym z
from-left {most} h (one {a} {b} {t} {u} {l} {ls} d ds) = go (says [] h (sym (take-nil most)) d) (from-left h ds)
  where
    go : Says most [] a t l true b → ls ≡ fronts most (lines_from [] (b.piece ++ u)) → l ∷ ls ≡ fronts most (lines_from [] (a.piece ++ (t ++ u)))
    go (ended w q y z) more = rw (z u, q) (ap (λ (r : List (List ℕ)). take most w ∷ r) more)
    go (stopped q z) more =
        let n = shut_none q ds in
        rw (n.0, n.1, append-nil t) (sym z)

pub lines-pieces : {most : ℕ} {m : Bool} {text : List ℕ} {ls : List (List ℕ)} → 0 < most → Pulled-all most (left m []) text ls → ls ≡ fronts most (lines_of text)
unfolding lines_of
lines-pieces h d = from-left h d
