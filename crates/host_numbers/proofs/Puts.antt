-- Stores from the front of a list on: what is stored past the end is not stored. Assumes nothing.
use Prim.Native.Nat.{ℕ, zero, suc, ◌+◌, ◌≤◌, min}
use mathlib.Core.Path.{◌≡◌, refl, sym, ap, ◌∙◌}
use mathlib.Core.Bool.{Bool, true, false}
use mathlib.Core.List.{List, [], ◌∷◌, ◌++◌}
use native.Mathlib.Omega.{arith}
use lib.Dec.{ltb}
use lib.ListN.{length, set, take, drop, replicate, length-set}
use lib.Seq.{sets, sets-eq, set_out, take-nil, take_all, length-take-le}
use borrow.Author.Tests.{ltb-true, ltb-false}

module _ {A : Type 0} where
  sets-out : (vs l : List A) (i : ℕ) → length l ≤ i → sets l i vs ≡ l
  sets-out [] l i h = refl
  sets-out (v ∷ vs) l i h = ap (λ (x : List A). sets x (suc i) vs) (set_out l i v h) ∙ sets-out vs l (suc i) (omega (arith, h))

  sets-cut : (vs l : List A) (i n : ℕ) → length l ≤ i + n → sets l i (take n vs) ≡ sets l i vs
  sets-cut [] l i n h = ap (sets l i) (take-nil n)
  sets-cut (v ∷ vs) l i zero h = sym (sets-out (v ∷ vs) l i (omega (arith, h)))
  sets-cut (v ∷ vs) l i (suc n) h = sets-cut vs (set l i v) (suc i) n (omega (arith, h, length-set l i v))

  -- what a copy of the lesser length leaves
  pub copied : (s o : List A) (n : ℕ) → n ≡ min (length s) (length o) → take n s ++ drop n o ≡ sets o 0 s
  copied s o n e =
      let k : length (take n s) ≡ n = length-take-le n s (omega (arith, e)) in
      let m : 0 + length (take n s) ≡ n = omega (arith, k) in
      sym (sets-eq (take n s) o 0 (omega (arith, e, k)) ∙ ap (λ (j : ℕ). take n s ++ drop j o) m) ∙ go (ltb (length s) (length o)) refl
    where
      go : (b : Bool) → ltb (length s) (length o) ≡ b → sets o 0 (take n s) ≡ sets o 0 s
      go true f = ap (sets o 0) (take_all n s (omega (arith, e, ltb-true (length s) (length o) f)))
      go false f = sets-cut s o 0 n (omega (arith, e, ltb-false (length s) (length o) f))

-- 25 numbers at the front of 40 zeros
pub wide : (s : List ℕ) → length s ≡ 25 → sets (replicate 40 0) 0 s ≡ s ++ replicate 15 0
wide s e =
    let h : 0 + length s ≤ 40 = omega (arith, e) in
    let k : 0 + length s ≡ 25 = omega (arith, e) in
    sets-eq s (replicate 40 0) 0 h ∙ ap (λ (n : ℕ). s ++ drop n (replicate 40 0)) k
