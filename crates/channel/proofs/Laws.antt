-- Laws of what is under way. Assumes nothing.
use mathlib.Core.Path.{◌≡◌, refl, sym, ◌∙◌}
use mathlib.Core.List.{List, [], ◌∷◌, ◌++◌, map}
use Prim.Native.Nat.{ℕ, zero, suc, ◌+◌, ◌-◌, ◌≤◌, ◌<◌, min}
use native.Mathlib.Nat.{min-eq_left, min-eq_right}
use mathlib.Core.Logic.{⊎_elim}
use Rattle.text.proofs.Laws.{le-or-lt}
use native.Mathlib.Omega.{arith}
use native.Mathlib.Numerals.{add-one}
use borrow.Author.Tests.{lt-ltb, le-ltb}
use lib.ListN.{length, get_or, take, drop, set, length-take, length-drop, length-map}
use Rattle.std.specs.List.{copy_within}
use Rattle.std.proofs.lemmas.List.{take_at}
use Rattle.std.proofs.lemmas.List.Edits.{sets, sets-eq}
use lib.Seq.{length-take-le, take-suc-set, take_all, take-nil}
use Rattle.channel.specs.declared.Letter.{Letter}
use Rattle.channel.specs.Channel.{pushed}

-- the octets of a PDU, and the zeros behind them
pub octets-put : (o x y : List ℕ) (n : ℕ) → y ≡ x → n ≡ length x → n ≤ length o → y ++ drop n o ≡ sets o 0 x
octets-put o x y n e w h = let z : 0 + length x ≡ length x = omega arith in rw (e, w) (rw z at (sym (sets-eq x o 0 (omega arith))))

-- a letter behind those that are held, where there is room and where there is none
module _ (ls : List Letter) (n : ℕ) (l : Letter) (whole : length ls ≡ 17) where
  pub push-room : n < 17 → take (n + 1) (set ls n l) ≡ pushed (take n ls) l
  unfolding pushed
  push-room h =
      let a : n < length ls = omega arith in
      let b : length (take n ls) ≡ n = length-take-le n ls (omega arith) in
      rw (b, lt-ltb n 17 h, add-one) (take-suc-set ls n l a)

  pub push-full : 17 ≤ n → take n ls ≡ pushed (take n ls) l
  unfolding pushed
  push-full h =
      let b : 17 ≤ length (take n ls) = rw (length-take n ls, whole) (omega arith) in
      rw (le-ltb (length (take n ls)) 17 b)

-- an array of structs is known by what stands for each
pub length-mapped : (X Y : Type 0) (f : X → Y) (l : List X) (n : ℕ) → length (map f l) ≡ n → length l ≡ n
length-mapped X Y f l n e = sym (length-map l f) ∙ e

-- the first n of a whole row, of which there are k
pub first-least : {A : Type 0} (n k : ℕ) (l : List A) → length l ≡ k → take (min n k) l ≡ take n l
first-least n k l e = ⊎_elim (λ (h : n ≤ k). rw (min-eq_left h)) (λ (h : k < n). let m : k ≤ n = omega arith in rw (min-eq_right m, take_all k l (omega arith), take_all n l (omega arith))) (le-or-lt n k)

-- the first of a row that is not empty
pub first_any : {A : Type 0} (l : List A) (n : ℕ) (d e : A) → (n ≡ 0 → ⊥) → length l ≡ 17 → get_or l 0 d ≡ get_or (take n l) 0 e
first_any l zero d e h w = absurd (h refl)
first_any [] (suc n) d e h w = absurd (omega arith)
first_any (x ∷ l) (suc n) d e h w = refl

-- the oldest goes: the others move up one by one
pub pass-begins : {A : Type 0} (l : List A) (n : ℕ) → 1 ≤ n → take (n - 1) (drop 1 l) ≡ drop 1 (take n l)
pass-begins l zero h = absurd (omega arith)
pass-begins [] (suc n) h = take-nil (suc n - 1)
pass-begins (x ∷ l) (suc n) h = let e : suc n - 1 ≡ n = omega arith in rw e

pub pass-moves : {A : Type 0} (l m : List A) (n : ℕ) → 1 ≤ n → n ≤ length l → m ≡ copy_within l 1 n 0 → take (n - 1) m ≡ drop 1 (take n l)
pass-moves l m n a b e =
    rw e (take_at (take (n - 1) (drop 1 l)) _ (n - 1) (length-take-le (n - 1) (drop 1 l) (omega (arith, length-drop 1 l))) ∙ pass-begins l n a)
