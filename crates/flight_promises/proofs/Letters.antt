-- What an answer puts under way fits, where its entries do. Assumes nothing.
use mathlib.Core.Path.{◌≡◌, refl, sym, ap, ◌∙◌}
use mathlib.Core.Bool.{Bool, true, false}
use mathlib.Core.List.{List, [], ◌∷◌, ◌++◌}
use Prim.Native.Nat.{ℕ, ◌+◌, ◌≤◌}
use native.Mathlib.Omega.{arith}
use lib.Dec.{ltb}
use lib.ListN.{length, take, drop, length-replicate}
use lib.Seq.{take_all, take-append_seam, sets-eq}
use Rattle.text.specs.Text.{pick, both}
use Rattle.link.proofs.Laws.{no_true, pick-case}
use Rattle.script.specs.Entries.{goes, rest_of}
use Rattle.channel.specs.declared.Letter.{Letter}
use Rattle.channel.specs.Channel.{no_octets, letter_of, octets_in, pushed}
use Rattle.sending.specs.Ways.{Way, kind_of, number_for, sent_as, sent_entry, sent_all}
use Rattle.flight_promises.specs.Fitting.{fits_at, letter_fits, all_fit}
use Rattle.flight_promises.proofs.Goings.{all_go}

-- a letter has the octets that were put into it
pub octets-in : (up : Bool) (n kind : ℕ) (s : List ℕ) → length s ≤ 115 → octets_in (letter_of up n kind s) ≡ s
unfolding letter_of no_octets
octets-in up n kind s h =
    rw (take_all 115 s h, sets-eq s no_octets 0 (rw (length-replicate {A = ℕ}) (omega arith))) (take-append_seam s (drop (0 + length s) no_octets))

letter-fits : (up : Bool) (n kind : ℕ) (s : List ℕ) → length s ≤ 115 → fits_at up kind s ≡ true → letter_fits (letter_of up n kind s) ≡ true
unfolding letter_fits letter_of
letter-fits up n kind s h f = ap (fits_at up kind) (octets-in up n kind s h) ∙ f

both_true : (a b : Bool) → a ≡ true → b ≡ true → both a b ≡ true
both_true true b e f = f
both_true false b e f = e

pub both_first : (a b : Bool) → both a b ≡ true → a ≡ true
both_first true b h = refl
both_first false b h = h

pub both-second : (a b : Bool) → both a b ≡ true → b ≡ true
both-second true b h = h
both-second false b h = absurd (no_true (sym h))

fit-more : (ls : List Letter) (l : Letter) → all_fit ls ≡ true → letter_fits l ≡ true → all_fit (ls ++ (l ∷ [])) ≡ true
fit-more [] l h f = both_true (letter_fits l) true f refl
fit-more (x ∷ ls) l h f =
    both_true (letter_fits x) (all_fit (ls ++ (l ∷ []))) (both_first (letter_fits x) (all_fit ls) h) (fit-more ls l (both-second (letter_fits x) (all_fit ls) h) f)

fit_pushed : (ls : List Letter) (l : Letter) → all_fit ls ≡ true → letter_fits l ≡ true → all_fit (pushed ls l) ≡ true
unfolding pushed
fit_pushed ls l h f = pick-case (λ (x : List Letter). all_fit x ≡ true) (ltb (length ls) 17) (λ e. fit-more ls l h f) (λ e. h)

module _ (up : Bool) (f : ℕ → List ℕ → Bool) (is : (c : ℕ) (s : List ℕ) → f c s ≡ fits_at up (kind_of c s) s) where
  as_fits : (w : Way) (c : ℕ) (s : List ℕ) → length s ≤ 115 → all_fit w.under ≡ true → f c s ≡ true → all_fit (sent_as up w c s).under ≡ true
  unfolding sent_as
  as_fits w c s h a g = fit_pushed w.under _ a (letter-fits up (number_for up c w.number) (kind_of c s) s h (sym (is c s) ∙ g))

  entry-fits : (b : Bool) (w : Way) (c : ℕ) (cs s : List ℕ) (k : ℕ)
      → ((v : Way) (m : ℕ) → length (take m s) ≤ 115 → all_fit v.under ≡ true → all_go f cs (take m s) ≡ true → all_fit (sent_all up v cs s m).under ≡ true)
      → length (take k s) ≤ 115 → all_fit w.under ≡ true → pick b (both (f c (take k s)) (all_go f cs [])) (all_go f cs (take k s)) ≡ true
      → all_fit (sent_all up (pick b (sent_as up w c (take k s)) w) cs s (pick b 0 k)).under ≡ true
  entry-fits true w c cs s k more h a g =
      more (sent_as up w c (take k s)) 0 (omega arith) (as_fits w c (take k s) h a (both_first (f c (take k s)) (all_go f cs []) g)) (both-second (f c (take k s)) (all_go f cs []) g)
  entry-fits false w c cs s k more h a g = more w k h a g

  pub sent-fits : (w : Way) (es s : List ℕ) (k : ℕ) → length (take k s) ≤ 115 → all_fit w.under ≡ true → all_go f es (take k s) ≡ true
      → all_fit (sent_all up w es s k).under ≡ true
  unfolding sent_entry rest_of
  sent-fits w [] s k h a g = a
  sent-fits w (c ∷ cs) s k h a g = entry-fits (goes c) w c cs s k (λ v m. sent-fits v cs s m) h a g
