-- All that an answer sends is under way. Assumes nothing.
use mathlib.Core.Path.{◌≡◌, sym, ◌∙◌}
use mathlib.Core.Bool.{Bool, true, false}
use mathlib.Core.List.{List, [], ◌∷◌, ◌++◌, append-nil}
use Prim.Native.Nat.{ℕ, ◌≤◌, ◌<◌}
use native.Mathlib.Nat.{le_refl, le_trans}
use native.Mathlib.Omega.{arith}
use borrow.Author.Tests.{lt-ltb}
use lib.Dec.{ltb}
use lib.ListN.{length, take, length-append}
use lib.Seq.{append_snoc}
use Rattle.text.specs.Text.{pick}
use Rattle.script.specs.Entries.{goes, rest_of}
use Rattle.channel.specs.declared.Letter.{Letter}
use Rattle.channel.specs.Channel.{letter_of, pushed}
use Rattle.sending.specs.Ways.{Way, kind_of, number_for, sent_as, sent_entry, sent_all}
use Rattle.flight_promises.specs.Sendings.{letters_of, AllSent}

-- what is under way grows
one_more : (b : Bool) (ls : List Letter) (l : Letter) → length ls ≤ length (pick b (ls ++ (l ∷ [])) ls)
one_more true ls l = rw (length-append ls (l ∷ [])) (omega arith)
one_more false ls l = le_refl (length ls)

entry-grows : (b up : Bool) (w : Way) (c : ℕ) (s : List ℕ) → length w.under ≤ length (pick b (sent_as up w c s) w).under
unfolding sent_as pushed
entry-grows true up w c s = one_more (ltb (length w.under) 17) w.under (letter_of up (number_for up c w.number) (kind_of c s) s)
entry-grows false up w c s = le_refl (length w.under)

pub all-grow : (up : Bool) (w : Way) (es s : List ℕ) (k : ℕ) → length w.under ≤ length (sent_all up w es s k).under
unfolding sent_entry
all-grow up w [] s k = le_refl (length w.under)
all-grow up w (c ∷ cs) s k = le_trans (entry-grows (goes c) up w c (take k s)) (all-grow up (sent_entry up w c (take k s)) cs s (rest_of c k))

-- where there is room a letter is put behind the others
pushed-behind : (ls : List Letter) (l : Letter) → length ls ≤ 16 → pushed ls l ≡ ls ++ (l ∷ [])
unfolding pushed
pushed-behind ls l h = let m : length ls < 17 = omega arith in rw (lt-ltb (length ls) 17 m)

-- an entry, and those after it
module _ (up : Bool) (w : Way) (c : ℕ) (cs s : List ℕ) (k : ℕ) where
  abbrev l : Letter
  l = letter_of up (number_for up c w.number) (kind_of c (take k s)) (take k s)

  abbrev others : ℕ → List Letter
  others n = letters_of up n cs s (rest_of c k)

  entry-sent : (b : Bool) → ((v : Way) → length (sent_all up v cs s (rest_of c k)).under ≤ 16 → (sent_all up v cs s (rest_of c k)).under ≡ v.under ++ others v.number)
      → length (sent_all up (pick b (sent_as up w c (take k s)) w) cs s (rest_of c k)).under ≤ 16
      → (sent_all up (pick b (sent_as up w c (take k s)) w) cs s (rest_of c k)).under ≡ w.under ++ pick b (l ∷ others (number_for up c w.number)) (others w.number)
  unfolding sent_as
  entry-sent true more h =
      let v = sent_as up w c (take k s) in
      let room : length w.under ≤ 16 = le_trans (entry-grows true up w c (take k s)) (le_trans (all-grow up v cs s (rest_of c k)) h) in
      more v h ∙ rw (pushed-behind w.under l room) (append_snoc w.under l (others (number_for up c w.number)))
  entry-sent false more h = more w h

pub all-sent : AllSent
unfolding sent_entry
all-sent up w [] s k h = sym (append-nil w.under)
all-sent up w (c ∷ cs) s k h = entry-sent up w c cs s k (goes c) (λ v. all-sent up v cs s (rest_of c k)) h
