-- The text of a line is never long. Assumes nothing.
use mathlib.Core.Path.{◌≡◌, refl}
use mathlib.Core.Bool.{Bool, true, false}
use mathlib.Core.List.{List, [], ◌∷◌, ◌++◌}
use Prim.Native.Nat.{ℕ, ◌*◌, ◌≤◌}
use native.Mathlib.Nat.{le_trans, min-le_right}
use native.Mathlib.Omega.{arith}
use borrow.Author.Tests.{leb-true}
use lib.Dec.{eqb, leb}
use lib.ListN.{length, length-append, length-take}
use Rattle.text.specs.Letters.{ascii}
use Rattle.text.specs.Text.{pick}
use Rattle.text.specs.Page.{Page}
use Rattle.std.specs.Prelude.{Option, Some, None}
use Rattle.script.specs.Fields.{number_after}
use Rattle.script.specs.Replies.{Reply}
use Rattle.channel.specs.Channel.{held_in}
use Rattle.channel.specs.declared.Channel.{Channel}
use Rattle.world.specs.World.{World}
use Rattle.delivery.specs.Hearing.{Tells}
use Rattle.delivery.specs.Deliveries.{LETTER-MOST, Flies}
use Rattle.flight_line.specs.Users.{ANSWER-MOST}
use Rattle.flight_line.specs.Boths.{BOTH-MOST}
use Rattle.flight_line.specs.Lines.{count_of, count_in, LINE-MOST}

-- what is not longer than the less is not longer than the more
pub longer : {a b : ℕ} {x : Reply World} {p q : Page} {w : World} → a ≤ b → Flies a x p w q → Flies b x p w q
longer h f = record { world_is = f.world_is; text_is = f.text_is; short = le_trans f.short h }

pub both-short : {g a s t : List ℕ} {p q u v : Page} → Tells g s p q → Tells a t u v → length s ≤ 115 → length t ≤ 115
    → length (ascii "ground " ++ (g ++ (ascii " air " ++ a))) ≤ BOTH-MOST
both-short {g} {a} x y h k =
    omega (arith, length-append (ascii "ground ") (g ++ (ascii " air " ++ a)), length-append g (ascii " air " ++ a), length-append (ascii " air ") a, x.short h, y.short k)

-- an answer behind a word, and the end of the line
pub line-short : (t : List ℕ) {x : Reply World} {p q : Page} {w : World} → length t ≤ 7 → Flies ANSWER-MOST x p w q → length ((t ++ x.text) ++ (10 ∷ [])) ≤ LINE-MOST
line-short t {x} h f = omega (arith, length-append (t ++ x.text) (10 ∷ []), length-append t x.text, f.short)

-- the lines for letters, behind a word, and behind what both say
module _ (k : ℕ) (few : k ≤ 17) {x : Reply World} {p q : Page} {w : World} (f : Flies (k * LETTER-MOST) x p w q) where
  pub carry-short : (t : List ℕ) → length t ≤ 7 → length (t ++ x.text) ≤ LINE-MOST
  carry-short t h = omega (arith, length-append t x.text, f.short)

  pub cut_short : {y : Reply World} {u v : Page} {b : World} → Flies BOTH-MOST y u b v → length ((y.text ++ (10 ∷ [])) ++ x.text) ≤ LINE-MOST
  cut_short {y} g = omega (arith, length-append (y.text ++ (10 ∷ [])) x.text, length-append y.text (10 ∷ []), f.short, g.short)

-- of more letters than there is room for no line speaks
pub held-most : (c : Channel) → length c.letters ≡ 17 → length (held_in c) ≤ 17
unfolding held_in
held-most c e = omega (arith, length-take c.n c.letters, min-le_right c.n (length c.letters))

count-of : (have : ℕ) (v : Option ℕ) → count_of have v ≤ have
unfolding count_of
count-of have (Some n) = go (leb n have) (leb-true n have)
  where
    go : (b : Bool) → (b ≡ true → n ≤ have) → pick b n 0 ≤ have
    go true h = h refl
    go false h = omega arith
count-of have None = omega arith

pub count_most : (have : ℕ) (tail : List ℕ) → count_in have tail ≤ have
unfolding count_in
count_most have tail = go (eqb (length tail) 0)
  where
    go : (b : Bool) → pick b have (count_of have (number_after tail)) ≤ have
    go true = omega arith
    go false = count-of have (number_after tail)
