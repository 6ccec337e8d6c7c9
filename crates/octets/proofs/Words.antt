-- Octets that are not there, and stores one after another. Assumes nothing.
use Prim.Native.Nat.{ℕ, zero, suc, ◌+◌, ◌-◌, ◌≤◌, ◌<◌, min}
use mathlib.Core.Path.{◌≡◌, refl, sym, ap, ◌∙◌}
use mathlib.Core.List.{List, [], ◌∷◌}
use native.Mathlib.Omega.{arith}
use borrow.Rule.Slice.PartMut.{put_mid}
use lib.ListN.{length, get_or, take, drop, drop_of_length-le, set, length-set, length-drop, replicate}
use lib.Seq.{sets, sets-eq, set_out, take-nil, drop-drop, length-take-le}
use Rattle.std.proofs.Common.{append_assoc}
use Rattle.std.proofs.lemmas.List.{take-replicate}
use Rattle.octets.specs.Octets.{zeros}
use Rattle.octets.specs.laws.Numbers.{next}
use Rattle.octets.specs.laws.Runs.{length-zeros}

pub sets-out : (vs l : List ℕ) (i : ℕ) → length l ≤ i → sets l i vs ≡ l
sets-out [] l i h = refl
sets-out (v ∷ vs) l i h = ap (λ (x : List ℕ). sets x (suc i) vs) (set_out l i v h) ∙ sets-out vs l (suc i) (omega (arith, h))

-- what is behind the end of the list is dropped
pub sets-cut : (vs l : List ℕ) (i n : ℕ) → (n < length vs → length l ≤ i + n) → sets l i (take n vs) ≡ sets l i vs
sets-cut [] l i n h = rw take-nil
sets-cut (v ∷ vs) l i zero h = sym (sets-out (v ∷ vs) l i (omega (arith, h (omega arith))))
sets-cut (v ∷ vs) l i (suc n) h = sets-cut vs (set l i v) (suc i) n (λ k. simp length-set (omega (arith, h (omega arith))))

-- what a copy to a part of the list leaves
pub sets-part : (vs l : List ℕ) (i k : ℕ) → k ≡ length vs → i + k ≤ length l → put_mid i k l vs ≡ sets l i vs
sets-part vs l i k e h = rw (sets-eq vs l i (omega arith), drop-drop k i l, e, append_assoc)

-- and a run of zeros in one
pub zeros-part : (l : List ℕ) (from end to : ℕ) → end ≡ min to (length l) → from < end
    → put_mid from (end - from) l (replicate (length (take (end - from) (drop from l))) 0) ≡ sets l from (zeros (to - from))
zeros-part l from end to e h =
    let n = end - from in
    let k : length (take n (drop from l)) ≡ n = length-take-le n (drop from l) (simp length-drop (omega arith)) in
    let z : take n (zeros (to - from)) ≡ zeros n = take-replicate n (to - from) 0 (omega arith) in
    rw (k, ← z) (sets-part _ l from n (rw z (sym (length-zeros n))) (omega arith) ∙ sets-cut _ l from n (λ m. omega (arith, length-zeros (to - from))))

pub zeros-none : (l : List ℕ) (from end to : ℕ) → end ≡ min to (length l) → end ≤ from → l ≡ sets l from (zeros (to - from))
zeros-none l from end to e h = sets-cut (zeros (to - from)) l from 0 (λ m. omega (arith, length-zeros (to - from)))

-- ---- one turn of the loop: what is still to do stands beside what is done
pub put-start : (s out : List ℕ) (at : ℕ) → sets out (at + 0) s ≡ sets out at s
put-start s out at = let e : at + 0 ≡ at = omega arith in rw e

pub put_step : (s out : List ℕ) (at i : ℕ) → i < length s → sets (set out (at + i) (get_or s i 0)) (at + (i + 1)) (drop (i + 1) s) ≡ sets out (at + i) (drop i s)
put_step s out at i h = let e : at + (i + 1) ≡ suc (at + i) = omega arith in rw (e, next s i h)

pub put-end : (s out : List ℕ) (at i : ℕ) → length s ≤ i → out ≡ sets out (at + i) (drop i s)
put-end s out at i h = rw (drop_of_length-le s h)
