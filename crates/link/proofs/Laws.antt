-- Laws of tests, of lists that are worked through from their start, and of lists of actions. Assumes nothing.
use mathlib.Core.Path.{◌≡◌, refl, subst, sym, ap, ◌∙◌}
use mathlib.Core.Logic.{◌⊎◌, inl, inr}
use mathlib.Core.Bool.{Bool, true, false, ◌&&◌}
use mathlib.Core.List.{List, [], ◌∷◌, ◌++◌, map, append-nil, append_assoc}
use Prim.Native.Nat.{ℕ, zero, suc, ◌+◌, ◌-◌, ◌<◌, ◌≤◌}
use native.Mathlib.Omega.{arith}
use native.Mathlib.Nat.{not-suc-le-zero, le_of_suc-le-suc, eq-or-lt_of_le, le_refl}
use native.Mathlib.Numerals.{add-one}
use borrow.Author.Tests.{lt-ltb}
use lib.Seq.{set-append_seam}
use lib.Dec.{T, leb, ltb, leb→le, ltb→lt}
use lib.ListN.{length, get_or, set, replicate, length-append}
use Rattle.std.specs.Array.{MapsFrom, IsMapOf}
use Rattle.std.specs.Fn.{Called}
use denote.Param.Members.{Mut}
use Rattle.std.proofs.lemmas.List.{get_or-map, ext_get_or, length-map}
use Rattle.std.specs.List.{list_all, range_with_len}
use Rattle.link.specs.Tests.{both, pick, below}
use Rattle.link.specs.Acts.{acts, pushed, pushed_all}
use Rattle.link.specs.Watch.{seconds_ok}
use Rattle.link.specs.declared.acts.Acts.{Acts}

-- `⊎_elim` with the sum first, so that each side's type is known where it is taken apart
pub cases {ℓ κ μ} : {A : Type ℓ} {B : Type κ} {C : Type μ} → A ⊎ B → (A → C) → (B → C) → C
cases (inl a) f g = f a
cases (inr b) f g = g b

pub no_true : true ≡ false → ⊥
no_true e = subst T e tt

pub both_left : (a b : Bool) → T (both a b) → T a
both_left true b t = tt
both_left false b t = t

pub both_right : (a b : Bool) → T (both a b) → T b
both_right true b t = t
both_right false b t = absurd t

-- a test that passes at each number below n passes at one of them
pub below_at : (n : ℕ) (f : ℕ → Bool) → T (below n f) → (k : ℕ) → k < n → T (f k)
below_at zero f t k h = absurd (not-suc-le-zero h)
below_at (suc n) f t k h =
    cases (eq-or-lt_of_le (le_of_suc-le-suc h))
    (λ e. subst (λ (m : ℕ). T (f m)) (sym e) (both_left (f n) (below n f) t))
    (λ l. below_at n f (both_right (f n) (below n f) t) k l)

-- the test passes below i and at i: it passes below i + 1
pub below_more : (f : ℕ → Bool) (i : ℕ) → below i f ≡ true → f i ≡ true → below (i + 1) f ≡ true
below_more f i p q = rw (add-one, q, p)

-- what held of the test at the loop's end
pub at-end : (f : ℕ → Bool) (i n : ℕ) → i ≡ n → below i f ≡ true → true ≡ below n f
at-end f i n e h = sym (subst (λ (k : ℕ). below k f ≡ true) e h)

-- it fails at one below n: it fails
pub below_fails : (f : ℕ → Bool) (n i : ℕ) → i < n → f i ≡ false → below n f ≡ false
below_fails f zero i h q = absurd (not-suc-le-zero h)
below_fails f (suc n) i h q =
    cases (eq-or-lt_of_le (le_of_suc-le-suc h))
    (λ e. rw (subst (λ (m : ℕ). f m ≡ false) e q))
    (λ l. rw (below_fails f n i l q) (both-no (f n)))
  where
    both-no : (a : Bool) → both a false ≡ false
    both-no true = refl
    both-no false = refl

-- a test of each number below n is a test of 0, and of each above it
below_front : (n : ℕ) (f : ℕ → Bool) → below (suc n) f ≡ both (f 0) (below n (λ k. f (suc k)))
below_front zero f = refl
below_front (suc n) f = ap (both (f (suc n))) (below_front n f) ∙ swap (f (suc n)) (f 0) (below n (λ k. f (suc k)))
  where
    swap : (a b c : Bool) → both a (both b c) ≡ both b (both a c)
    swap true b c = refl
    swap false true c = refl
    swap false false c = refl

and-both : (a : Bool) {b c : Bool} → b ≡ c → (a && b) ≡ both a c
and-both true e = e
and-both false e = refl

-- a test of each of a list of n is one at each index below n
pub below_list : (g : ℕ → Bool) (l : List ℕ) {n : ℕ} → length l ≡ n → list_all g l ≡ below n (λ k. g (get_or l k 0))
below_list g l e = each l ∙ ap (λ n. below n (λ k. g (get_or l k 0))) e
  where
    each : (l : List ℕ) → list_all g l ≡ below (length l) (λ k. g (get_or l k 0))
    each [] = refl
    each (x ∷ xs) = and-both (g x) (each xs) ∙ sym (below_front (length xs) (λ k. g (get_or (x ∷ xs) k 0)))

-- a test of each number of a range is one of each below its end
pub below_range : (f : ℕ → Bool) (n : ℕ) → list_all f (range_with_len 0 n) ≡ below n f
below_range f n = from 0 n f (λ k. ap f (omega arith))
  where
    from : (a n : ℕ) (g : ℕ → Bool) → ((k : ℕ) → f (a + k) ≡ g k) → list_all f (range_with_len a n) ≡ below n g
    from a zero g e = refl
    from a (suc n) g e =
        let first : f a ≡ g 0 = ap f (omega arith) ∙ e 0 in
        rw first (and-both (g 0) (from (a + 1) n (λ k. g (suc k)) (λ k. ap f (omega arith) ∙ e (suc k)))) ∙ sym (below_front n g)

pub both-T : (a b : Bool) → T a → T b → T (both a b)
both-T true b t u = u
both-T false b t u = t

pub below_all : (n : ℕ) (f : ℕ → Bool) → ((t : ℕ) → t < n → T (f t)) → T (below n f)
below_all zero f h = tt
below_all (suc n) f h = both-T (f n) (below n f) (h n (le_refl _)) (below_all n f (λ t l. h t (omega arith)))

pub eq-T : (b : Bool) → b ≡ true → T b
eq-T b e = subst T (sym e) tt

pub T-eq : (b : Bool) → T b → b ≡ true
T-eq true t = refl
T-eq false t = absurd t

-- a setting is in range
pub seconds-range : (x : ℕ) → T (seconds_ok x) → (1 ≤ x) × (x ≤ 86400)
seconds-range x t =
    let a = leb 1 x in
    let b = leb x 86400 in
    (leb→le 1 x (both_left a b t), leb→le x 86400 (both_right a b t))

-- what holds of both things holds of the choice between them
pub pick-case : {A : Type 0} (Q : A → Type 0) (b : Bool) {x y : A} → (b ≡ true → Q x) → (b ≡ false → Q y) → Q (pick b x y)
pick-case Q true f g = f refl
pick-case Q false f g = g refl

pub pick_same : {A : Type 0} (Q : A → Type 0) (b : Bool) {x : A} → Q x → Q (pick b x x)
pick_same Q b q = pick-case Q b (λ e. q) (λ e. q)

-- an answer that is given where the record is good and the call may come; else one of two refusals
pub allowed-case : {A : Type 0} (Q : A → Type 0) (good may : Bool) (a : A) {barred bad : A} → Q bad → Q barred → (T good → T may → Q a) → Q (pick good (pick may a barred) bad)
allowed-case Q good may a bad barred f = pick-case Q good (λ g. pick-case Q may (λ m. f (eq-T good g) (eq-T may m)) (λ m. barred)) (λ g. bad)

-- pushes, one list after the other
pub pushed-append : (a : Acts) (xs ys : List ℕ) → pushed_all a (xs ++ ys) ≡ pushed_all (pushed_all a xs) ys
unfolding pushed_all
pushed-append a [] ys = refl
pushed-append a (x ∷ xs) ys = pushed-append (pushed a x) xs ys

pub pushed-one : (a : Acts) (b : Bool) (x : ℕ) → pushed_all a (pick b (x ∷ []) []) ≡ pick b (pushed a x) a
unfolding pushed_all
pushed-one a true x = refl
pushed-one a false x = refl

pad-step : (l : List ℕ) (x n : ℕ) → length l < n
    → set (l ++ replicate (n - length l) 0) (length l) x ≡ (l ++ (x ∷ [])) ++ replicate (n - length (l ++ (x ∷ []))) 0
pad-step l x n h =
    let e : n - length l ≡ suc (n - length (l ++ (x ∷ []))) = omega (arith, length-append l (x ∷ [])) in
    rw e (set-append_seam l 0 (replicate (n - length (l ++ (x ∷ []))) 0) x ∙ sym (append_assoc l (x ∷ []) (replicate (n - length (l ++ (x ∷ []))) 0)))

push-acts : (l : List ℕ) (x : ℕ) → length l < 8 → pushed (acts l) x ≡ acts (l ++ (x ∷ []))
unfolding pushed acts
push-acts l x h = rw (lt-ltb (length l) 8 h) (λ i. record { n = sym (length-append l (x ∷ [])) i; list = pad-step l x 8 h i })

-- where there is room, the list grows at its end
pub pushed-list : (l xs : List ℕ) → length l + length xs ≤ 8 → pushed_all (acts l) xs ≡ acts (l ++ xs)
unfolding pushed_all
pushed-list l [] h = ap acts (sym (append-nil l))
pushed-list l (x ∷ xs) h =
    ap (λ (a : Acts). pushed_all a xs) (push-acts l x (omega arith))
    ∙ pushed-list (l ++ (x ∷ [])) xs (omega (arith, length-append l (x ∷ [])))
    ∙ ap acts (append_assoc l (x ∷ []) xs)

-- no list grows over eight
pub pushed_most : (a : Acts) (x : ℕ) → a.n ≤ 8 → (pushed a x).n ≤ 8
unfolding pushed
pushed_most a x h = pick-case (λ (r : Acts). r.n ≤ 8) (ltb a.n 8) (λ e. let k = ltb→lt a.n 8 (eq-T _ e) in omega arith) (λ e. h)

pub all_most : (a : Acts) (xs : List ℕ) → a.n ≤ 8 → (pushed_all a xs).n ≤ 8
unfolding pushed_all
all_most a [] h = h
all_most a (x ∷ xs) h = all_most (pushed a x) xs (pushed_most a x h)

pub none-most : (acts []).n ≤ 8
unfolding acts
none-most = omega arith

-- a chain of pushes: the first, and one more
pub push-first : (s : Acts) {r : Acts} (b : Bool) (x : ℕ) → r ≡ pick b (pushed s x) s → r ≡ pushed_all s (pick b (x ∷ []) [])
push-first s b x e = e ∙ sym (pushed-one s b x)

pub push-next : (s : Acts) {a r : Acts} (l : List ℕ) (b : Bool) (x : ℕ) → a ≡ pushed_all s l → r ≡ pick b (pushed a x) a → r ≡ pushed_all s (l ++ pick b (x ∷ []) [])
push-next s l b x h e =
    e ∙ ap (λ (q : Acts). pick b (pushed q x) q) h ∙ sym (pushed-append s l (pick b (x ∷ []) []) ∙ pushed-one (pushed_all s l) b x)

-- calls of a closure that changes nothing it holds, at each element in turn: its results are the map
pub map_of_calls : {F : Type 0} (g : Mut F (ℕ × Unit {0}) ℕ) (h : ℕ → ℕ) (f : F) → ((x y : ℕ) (q : F) → Called g f (x, tt) y q → (q ≡ f) × (y ≡ h x)) → {xs ys : List ℕ} {n : ℕ} → length xs ≡ n → IsMapOf g f xs ys n → ys ≡ map h xs
map_of_calls {F} g h f step {xs} {ys} {n} e m =
    ext_get_or 0 ys (map h xs) (omega (arith, length-map xs h, e, m.long)) (λ k l. each f n 0 m.each refl k (omega arith) (omega (arith, m.long)) ∙ sym (get_or-map h xs k 0 0 (omega (arith, e, m.long))))
  where
    each : (p : F) (n i : ℕ) → MapsFrom g p xs ys i n → p ≡ f → (k : ℕ) → i ≤ k → k < i + n → get_or ys k 0 ≡ h (get_or xs k 0)
    each p zero i m e k a b = absurd (omega arith)
    each p (suc n) i (q, x, y, ex, ey, c, rest) e k a b =
        let s = step x y q (subst (λ (p : F). Called g p (x, tt) y q) e c) in
        cases (eq-or-lt_of_le a)
        (λ here. subst (λ (k : ℕ). get_or ys k 0 ≡ h (get_or xs k 0)) here (ey.1 0 ∙ s.1 ∙ ap h (sym (ex.1 0))))
        (λ later. each q n (i + 1) rest s.0 k (omega arith) (omega arith))
