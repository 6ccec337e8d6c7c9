-- How long texts are, and how much of a line is enough to answer it. Assumes nothing.
use mathlib.Core.Path.{◌≡◌, refl}
use mathlib.Core.Bool.{Bool, true, false}
use mathlib.Core.List.{List, [], ◌∷◌}
use mathlib.Core.Logic.{⊎_elim}
use Prim.Native.Nat.{ℕ, ◌+◌, ◌≤◌, ◌<◌}
use native.Mathlib.Omega.{arith}
use borrow.Author.Tests.{lt-ltb}
use lib.Dec.{ltb}
use lib.ListN.{length, take, length-append, length-take}
use lib.Seq.{take_all}
use Rattle.text.specs.Letters.{ascii}
use Rattle.text.specs.Text.{pick, hex_text, decimal}
use Rattle.text.specs.Words.{refused_text}
use Rattle.text.proofs.Laws.{le-or-lt, decimal-length}

pub hex-length : (os : List ℕ) → length (hex_text os) ≡ length os + length os
hex-length [] = refl
hex-length (o ∷ os) = omega (arith, hex-length os)

pub refused-length : (n : ℕ) → length (refused_text n) ≤ 28
unfolding refused_text
refused-length n = omega (arith, length-append (ascii "refused ") (decimal n), decimal-length n)

-- one of two texts
pub of_two : (b : Bool) (n : ℕ) (x y : List ℕ) → length x ≤ n → length y ≤ n → length (pick b x y) ≤ n
of_two true n x y p q = p
of_two false n x y p q = q

-- where lines over 4,096 octets are answered alike, the first 4,097 of a line are answered as the whole line is
pub kept-enough : {X : Type 0} (over : X) (answer : List ℕ → X) (l : List ℕ)
    → pick (ltb 4096 (length (take 4097 l))) over (answer (take 4097 l)) ≡ pick (ltb 4096 (length l)) over (answer l)
kept-enough over answer l =
    ⊎_elim
    (λ (short : length l ≤ 4097). rw (take_all 4097 l short))
    (λ (long : 4097 < length l).
    let c : 4096 < length (take 4097 l) = rw (length-take 4097 l) (omega arith) in
    let d : 4096 < length l = omega arith in
    rw (lt-ltb _ _ c, lt-ltb _ _ d))
    (le-or-lt (length l) 4097)
