-- No action list is cut: at most four timers run, so the stops of all of them and what follows have room. What an action list names. Assumes nothing.
use mathlib.Core.Path.{◌≡◌, refl, sym, ap, subst, ◌∙◌}
use mathlib.Core.Bool.{Bool, true, false}
use mathlib.Core.List.{List, [], ◌∷◌, ◌++◌}
use Prim.Native.Nat.{ℕ, zero, suc, ◌+◌, ◌-◌, ◌<◌, ◌≤◌}
use native.Mathlib.Omega.{arith}
use native.Mathlib.Nat.{not-suc-le-zero, le_of_suc-le-suc, eq-or-lt_of_le, le_refl, le_trans}
use lib.Dec.{T, leb, ltb, eqb, leb→le}
use lib.ListN.{length, get_or, replicate, length-append}
use borrow.Author.Tests.{eq-eqb, eqb-true, lt-ltb}
use Rattle.link.specs.Names.{timers}
use Rattle.link.specs.Tests.{either, pick}
use Rattle.link.specs.Watch.{runs, timer_ok}
use Rattle.link.specs.Acts.{acts, pushed_all, one}
use Rattle.link.specs.Clock.{stops_of}
use Rattle.link.specs.Step.{acts_of}
use Rattle.link.specs.declared.acts.Acts.{Acts}
use Rattle.link.specs.declared.moves.Move.{Move}
use Rattle.link.proofs.Laws.{cases, no_true, pushed-list}
use Rattle.sides.specs.Tables.{Tables, count, all_fit, member}
use Rattle.sides.specs.Runs.{View, Sound, touches}
use Rattle.sides.proofs.Fits.{few-run}
use Rattle.sides.proofs.Keeps.{good-states, good-timer, timer-off}

-- a timer that has seconds left runs
left-runs : (run : Bool) (most left : ℕ) → T (timer_ok run most left) → T (leb 1 left) → T run
left-runs true most left t h = tt
left-runs false most left t h =
    let e = timer-off false most left t refl in
    let p = leb→le 1 left h in
    omega arith

-- no more stops than running timers
stops-count : (left : List ℕ) (f : ℕ → Bool) (n : ℕ) → ((t : ℕ) → t < n → T (leb 1 (get_or left t 0)) → T (f t)) → length (stops_of n left) ≤ count n f
unfolding stops_of
stops-count left f zero h = le_refl _
stops-count left f (suc n) h =
    let ih = stops-count left f n (λ t l. h t (omega arith)) in
    let more = step (leb 1 (get_or left n 0)) (f n) (h n (le_refl _)) in
    omega (arith, length-append (stops_of n left) (pick (leb 1 (get_or left n 0)) ((16 + n) ∷ []) []))
  where
    step : (a b : Bool) → (T a → T b) → length (pick a ((16 + n) ∷ []) []) ≤ pick b 1 0
    step true true k = le_refl _
    step true false k = absurd (k tt)
    step false true k = omega arith
    step false false k = le_refl _

few-stops : (b : Tables) → T (all_fit b) → (v : View) → Sound b v → length (stops_of timers v.left) ≤ 4
few-stops b test v s =
    le_trans
    (stops-count v.left (λ t. runs b.watch t v.at) timers (λ t h p. left-runs (runs b.watch t v.at) (get_or v.most t 0) (get_or v.left t 0) (good-timer b v s t h) p))
    (few-run b test v.at s.states (good-states b v s))

-- the stops of a good record are all said, and so are as many entries more as have room
pub stops-whole : (b : Tables) → T (all_fit b) → (v : View) → Sound b v → (more : List ℕ) → length more ≤ 4
    → pushed_all (pushed_all (acts []) (stops_of timers v.left)) more ≡ acts (stops_of timers v.left ++ more)
stops-whole b test v s more room =
    let few = few-stops b test v s in
    ap (λ (a : Acts). pushed_all a more) (pushed-list [] (stops_of timers v.left) (omega arith)) ∙ pushed-list (stops_of timers v.left) more (omega arith)

-- a move does at most four things
pub short : (m : Move) (send : ℕ) → length (acts_of m send) ≤ 4
unfolding acts_of
short m send =
    let a : List ℕ = one (ltb m.stop timers) (16 + m.stop) in
    let b : List ℕ = one m.ind 5 in
    let d : List ℕ = one m.send send in
    let e : List ℕ = one (ltb m.start timers) (32 + m.start) in
    omega (arith, length-append (a ++ b ++ d) e, length-append (a ++ b) d, length-append a b, most (ltb m.stop timers) (16 + m.stop), most m.ind 5, most m.send send, most (ltb m.start timers) (32 + m.start))
  where
    most : (y : Bool) (x : ℕ) → length (one y x) ≤ 1
    most true x = le_refl _
    most false x = omega arith

either-right : (a : Bool) → either a true ≡ true
either-right true = refl
either-right false = refl

either-mono : (a b d : Bool) → (b ≡ true → d ≡ true) → either a b ≡ true → either a d ≡ true
either-mono true b d f h = refl
either-mono false b d f h = f h

pub member-left : (x : ℕ) (l r : List ℕ) → member x l ≡ true → member x (l ++ r) ≡ true
member-left x [] r e = absurd (no_true (sym e))
member-left x (y ∷ ys) r e = either-mono (eqb x y) (member x ys) (member x (ys ++ r)) (member-left x ys r) e

pub member_right : (x : ℕ) (l r : List ℕ) → member x r ≡ true → member x (l ++ r) ≡ true
member_right x [] r e = e
member_right x (y ∷ ys) r e = rw (member_right x ys r e) (either-right (eqb x y))

member-one : (x : ℕ) → member x (x ∷ []) ≡ true
member-one x = rw (eq-eqb x x refl)

-- the stop entry of a running timer stands among the stops
pub stops-member : (left : List ℕ) (n t : ℕ) → t < n → leb 1 (get_or left t 0) ≡ true → member (16 + t) (stops_of n left) ≡ true
unfolding stops_of
stops-member left zero t h e = absurd (not-suc-le-zero h)
stops-member left (suc n) t h e =
    cases (eq-or-lt_of_le (le_of_suc-le-suc h))
    (λ q. member_right (16 + t) (stops_of n left) _ (subst (λ (k : ℕ). member (16 + t) (pick (leb 1 (get_or left k 0)) ((16 + k) ∷ []) []) ≡ true) q (subst (λ (b : Bool). member (16 + t) (pick b ((16 + t) ∷ []) []) ≡ true) (sym e) (member-one (16 + t)))))
    (λ q. member-left (16 + t) (stops_of n left) _ (stops-member left n t q e))

one-member : (base t k : ℕ) → t < timers → eqb t k ≡ true → member (base + t) (one (ltb k timers) (base + k)) ≡ true
one-member base t k h e =
    subst (λ (j : ℕ). member (base + t) (one (ltb j timers) (base + j)) ≡ true) (eqb-true t k e)
    (subst (λ (b : Bool). member (base + t) (one b (base + t)) ≡ true) (sym (lt-ltb t timers h)) (member-one (base + t)))

-- what a move stops and starts stands in its actions
pub acts-stop : (m : Move) (send t : ℕ) → t < timers → eqb t m.stop ≡ true → member (16 + t) (acts_of m send) ≡ true
unfolding acts_of
acts-stop m send t h e =
    let a : List ℕ = one (ltb m.stop timers) (16 + m.stop) in
    let b : List ℕ = one m.ind 5 in
    let d : List ℕ = one m.send send in
    let s : List ℕ = one (ltb m.start timers) (32 + m.start) in
    member-left (16 + t) (a ++ b ++ d) s (member-left (16 + t) (a ++ b) d (member-left (16 + t) a b (one-member 16 t m.stop h e)))

pub acts-start : (m : Move) (send t : ℕ) → t < timers → eqb t m.start ≡ true → member (32 + t) (acts_of m send) ≡ true
unfolding acts_of
acts-start m send t h e =
    member_right (32 + t) (one (ltb m.stop timers) (16 + m.stop) ++ one m.ind 5 ++ one m.send send) (one (ltb m.start timers) (32 + m.start)) (one-member 32 t m.start h e)

-- an action list that does not name the timer
acts-free : (x : ℕ) (l : List ℕ) → member x (acts l).list ≡ false → member x l ≡ true → ⊥
unfolding acts
acts-free x l e h = no_true (sym (member-left x l (replicate (8 - length l) 0) h) ∙ e)

either-none : (a b : Bool) → either a b ≡ false → (a ≡ false) × (b ≡ false)
either-none true b e = absurd (no_true e)
either-none false b e = (refl, e)

-- actions that neither stop nor start the timer: its entries are not in the list
pub untouched : (t : ℕ) (a : Acts) (l : List ℕ) → a ≡ acts l → touches t a ≡ false → (member (16 + t) l ≡ true → ⊥) × (member (32 + t) l ≡ true → ⊥)
unfolding touches
untouched t a l e u =
    let v = either-none (member (16 + t) a.list) (member (32 + t) a.list) u in
    (acts-free (16 + t) l (subst (λ (x : Acts). member (16 + t) x.list ≡ false) e v.0), acts-free (32 + t) l (subst (λ (x : Acts). member (32 + t) x.list ≡ false) e v.1))
