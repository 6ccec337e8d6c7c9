-- One turn of each loop, as a law on lists. Assumes nothing.
use mathlib.Core.Path.{◌≡◌, refl, sym, ap, subst, ◌∙◌}
use mathlib.Core.Bool.{Bool, true, false}
use mathlib.Core.List.{List, [], ◌∷◌}
use Prim.Native.Nat.{ℕ, zero, suc, ◌+◌, ◌-◌, ◌*◌, ◌/◌, ◌%◌, ◌≤◌, ◌<◌, min}
use native.Mathlib.Omega.{arith}
use mathlib.Core.Logic.{◌⊎◌, inl, inr}
use native.Mathlib.Numerals.{add-one, unary_clauses}
use borrow.Author.Tests.{lt-ltb, le-ltb, ltb-true, leb-true, leb-false, eqb-true}
use lib.Dec.{eqb, leb, ltb}
use lib.ListN.{length, get_or, take, drop, set, length-set, drop_of_length-le, length-drop}
use lib.Seq.{drop-cons, sets, take_all, set_out, drop-set-lt, get_or-set_same}
use Rattle.text.specs.Text.{pick, both, digit_of, all_hex, hex_good, octets_of, decimal_onto, decimal}
use Rattle.text.specs.Page.{page, put}

pub le-or-lt : (a b : ℕ) → (a ≤ b) ⊎ (b < a)
le-or-lt a b = go (leb a b) refl
  where
    go : (f : Bool) → leb a b ≡ f → (a ≤ b) ⊎ (b < a)
    go true e = inl (leb-true a b e)
    go false e = inr (leb-false a b e)

-- the front of what is left
pub next : (s : List ℕ) (i : ℕ) → i < length s → drop i s ≡ get_or s i 0 ∷ drop (i + 1) s
next s i h = rw add-one (drop-cons s i 0 h)

pub both_true : (a b : Bool) → both a b ≡ true → (a ≡ true) × (b ≡ true)
both_true true b e = (refl, e)
both_true false b e = let z : ◌≡◌ {A = ℕ} 0 1 = cc in absurd (omega arith)

pub hex-head : (s : List ℕ) (i : ℕ) → i < length s → all_hex (drop i s) ≡ true → (digit_of (get_or s i 0) < 16) × (all_hex (drop (i + 1) s) ≡ true)
hex-head s i h e =
    let t = both_true _ _ (sym (ap all_hex (next s i h)) ∙ e) in
    (ltb-true _ _ t.0, t.1)

-- one octet of two digits
pub fill_step : (s out : List ℕ) (i j : ℕ) → j + 1 < length s
    → sets (set out i (digit_of (get_or s j 0) * 16 + digit_of (get_or s (j + 1) 0))) (i + 1) (octets_of (drop (j + 2) s)) ≡ sets out i (octets_of (drop j s))
fill_step s out i j h =
    let e : j + 2 ≡ j + 1 + 1 = omega arith in
    let lo : j < length s = omega arith in
    rw (e, next s j lo, next s (j + 1) h, add-one i)

-- ends
pub put_full : (l : List ℕ) (a b : ℕ) → length l ≤ a → put (page l a) b ≡ page l a
unfolding put
put_full l a b h = rw (le-ltb a (length l) h, set_out l a b h)

pub hex-even : (s : List ℕ) → hex_good s ≡ true → (all_hex s ≡ true) × (length s % 2 ≡ 0)
unfolding hex_good
hex-even s e = let t = both_true (all_hex s) (eqb (length s % 2) 0) e in (t.0, eqb-true _ _ t.1)

pub hex-two : (s : List ℕ) (j : ℕ) → j + 1 < length s → all_hex (drop j s) ≡ true
    → (digit_of (get_or s j 0) < 16) × (digit_of (get_or s (j + 1) 0) < 16) × (all_hex (drop (j + 2) s) ≡ true)
hex-two s j h e =
    let lo : j < length s = omega arith in
    let a = hex-head s j lo e in
    let b = hex-head s (j + 1) h a.1 in
    let m : j + 2 ≡ j + 1 + 1 = omega arith in
    (a.0, b.0, rw m b.1)

pub fill_end : (s out : List ℕ) (i j : ℕ) → length s ≤ j → sets out i (octets_of (drop j s)) ≡ out
fill_end s out i j h = rw (drop_of_length-le s h)

-- one digit more, in front
pub digit-step : (l : List ℕ) (k n : ℕ) → k < length l → 10 ≤ n
    → decimal_onto k (n / 10) (drop k (set l k (48 + n / 10 % 10))) ≡ decimal_onto (suc k) n (drop (suc k) l)
digit-step l k n h d =
    let x = 48 + n / 10 % 10 in
    let r : k < length (set l k x) = simp length-set (omega arith) in
    rw (le-ltb n 10 d, drop-cons (set l k x) k 0 r, get_or-set_same l k x 0 h, drop-set-lt (suc k) l k x (omega arith))

pub digits-done : (k n : ℕ) (t : List ℕ) → n < 10 → decimal_onto k n t ≡ t
digits-done zero n t h = refl
digits-done (suc k) n t h = rw (lt-ltb n 10 h)

pub digits-none : (k n : ℕ) (t : List ℕ) → k ≡ 0 → decimal_onto k n t ≡ t
digits-none zero n t h = refl
digits-none (suc k) n t h = absurd (omega arith)

-- a part up to the end
pub part-all : (l : List ℕ) (a n : ℕ) → length l ≡ n → take (n - a) (drop a l) ≡ drop a l
part-all l a n e = take_all (n - a) (drop a l) (simp length-drop (omega arith))

-- a prefix of the part that is there
pub take_min : (n : ℕ) (l : List ℕ) → take (min n (length l)) l ≡ take n l
take_min zero l = simp unary_clauses
take_min (suc n) [] = simp unary_clauses
take_min (suc n) (x ∷ l) = simp unary_clauses (ap (λ (r : List ℕ). x ∷ r) (take_min n l))

pub take-least : (n k : ℕ) (l : List ℕ) → length l ≡ k → take (min n k) l ≡ take n l
take-least n k l e = subst (λ (j : ℕ). take (min n j) l ≡ take n l) e (take_min n l)

-- how long a number is
decimal-onto : (k n : ℕ) (s : List ℕ) → length (decimal_onto k n s) ≤ k + length s
decimal-onto zero n s = omega arith
decimal-onto (suc k) n s = go (ltb n 10) (decimal-onto k (n / 10) ((48 + n / 10 % 10) ∷ s))
  where
    go : (f : Bool) → length (decimal_onto k (n / 10) ((48 + n / 10 % 10) ∷ s)) ≤ k + length ((48 + n / 10 % 10) ∷ s)
        → length (pick f s (decimal_onto k (n / 10) ((48 + n / 10 % 10) ∷ s))) ≤ suc k + length s
    go true h = omega arith
    go false h = omega arith

pub decimal-length : (n : ℕ) → length (decimal n) ≤ 20
unfolding decimal
decimal-length n = decimal-onto 19 n ((48 + n % 10) ∷ [])
