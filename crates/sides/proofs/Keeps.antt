-- A good record stays good: by a part that fits, after seconds at which no timer is due, where everything stops. Assumes nothing.
use mathlib.Core.Path.{◌≡◌, refl, subst, sym, ◌∙◌, subst₂}
use mathlib.Core.Bool.{Bool, true, false, not}
use mathlib.Core.List.{List, [], ◌∷◌, map}
use Prim.Native.Nat.{ℕ, zero, suc, ◌-◌, ◌<◌, ◌≤◌}
use native.Mathlib.Omega.{arith}
use native.Mathlib.Nat.{le_refl}
use lib.Dec.{T, leb, eqb, leb→le, le→leb, nleb→lt, eqb→eq}
use lib.ListN.{length, get_or, set, replicate, length-set, get_or-map, length-map}
use lib.Seq.{get_or-set_same, get_or-set_other}
use borrow.Author.Tests.{eqb-true, eqb-false, le-leb}
use Rattle.link.specs.Names.{timers}
use Rattle.link.specs.Tests.{both, either, pick, below}
use Rattle.link.specs.Watch.{runs, timer_ok, timer_good}
use Rattle.link.specs.Clock.{due, not_due, later}
use Rattle.link.specs.Step.{left_after, rest_at}
use Rattle.link.specs.declared.moves.Move.{Move}
use Rattle.link.proofs.Laws.{both_left, both_right, both-T, below_at, below_all}
use Rattle.sides.specs.Tables.{Tables, states_ok, on_through, all_fit}
use Rattle.sides.specs.Runs.{View, timers_ok, Sound, Part, stepped, steps, Loads, Fit, Fits, rested, waited}
use Rattle.sides.proofs.Fits.{rest-fits, balanced-states, timed}

-- what a good record has
pub good-states : (b : Tables) (v : View) → Sound b v → T (states_ok b v.at)
unfolding timers_ok
good-states b v s = both_left (states_ok b v.at) (below timers (timer_good b.watch v.at v.left v.most)) s.fine

pub good-timer : (b : Tables) (v : View) → Sound b v → (t : ℕ) → t < timers → T (timer_ok (runs b.watch t v.at) (get_or v.most t 0) (get_or v.left t 0))
unfolding timers_ok timer_good
good-timer b v s =
    below_at timers (timer_good b.watch v.at v.left v.most)
    (both_right (states_ok b v.at) (below timers (timer_good b.watch v.at v.left v.most)) s.fine)

make-good : (b : Tables) (v : View) → T (states_ok b v.at)
    → ((t : ℕ) → t < timers → T (timer_ok (runs b.watch t v.at) (get_or v.most t 0) (get_or v.left t 0))) → T (timers_ok b v)
unfolding timers_ok timer_good
make-good b v p q = both-T (states_ok b v.at) _ p (below_all timers (timer_good b.watch v.at v.left v.most) q)

-- a timer: on, with 1 to most left, or off, with none
timer-parts : (run : Bool) (most left : ℕ) → T (timer_ok run most left) → (1 ≤ most) × T (pick run (both (leb 1 left) (leb left most)) (eqb left 0))
unfolding timer_ok
timer-parts run most left t =
    let rest = pick run (both (leb 1 left) (leb left most)) (eqb left 0) in
    (leb→le 1 most (both_left (leb 1 most) rest t), both_right (leb 1 most) rest t)

pub timer-on : (run : Bool) (most left : ℕ) → T (timer_ok run most left) → run ≡ true → (1 ≤ left) × (left ≤ most)
timer-on run most left k e =
    let u = subst (λ (b : Bool). T (pick b (both (leb 1 left) (leb left most)) (eqb left 0))) e (timer-parts run most left k).1 in
    (leb→le 1 left (both_left (leb 1 left) (leb left most) u), leb→le left most (both_right (leb 1 left) (leb left most) u))

pub timer-off : (run : Bool) (most left : ℕ) → T (timer_ok run most left) → run ≡ false → left ≡ 0
timer-off run most left k e =
    eqb→eq left 0 (subst (λ (b : Bool). T (pick b (both (leb 1 left) (leb left most)) (eqb left 0))) e (timer-parts run most left k).1)

on-ok : (most left : ℕ) → 1 ≤ left → left ≤ most → T (timer_ok true most left)
unfolding timer_ok
on-ok most left p q = both-T (leb 1 most) _ (le→leb 1 most (omega arith)) (both-T (leb 1 left) (leb left most) (le→leb 1 left p) (le→leb left most q))

off-ok : (most left : ℕ) → 1 ≤ most → left ≡ 0 → T (timer_ok false most left)
unfolding timer_ok
off-ok most left p q = both-T (leb 1 most) _ (le→leb 1 most p) (subst (λ (x : ℕ). T (eqb x 0)) (sym q) tt)

-- a timer stays as the watch table has it: started (a) with what the start loads, else stopped (z), else as it was, and then what it loads is as it was
timer-kept : (run : Bool) (most left new : ℕ) → T (timer_ok run most left) → 1 ≤ new → (a z : Bool) → (both run (not z) ≡ true → new ≡ most)
    → T (timer_ok (either a (both run (not z))) new (pick a new (pick z 0 left)))
timer-kept run most left new t p true z e = on-ok new new p (le_refl _)
timer-kept true most left new t p false true e = off-ok new 0 p refl
timer-kept true most left new t p false false e =
    let h = timer-on true most left t refl in
    let q = e refl in
    on-ok new left h.0 (omega arith)
timer-kept false most left new t p false true e = off-ok new 0 p refl
timer-kept false most left new t p false false e = off-ok new left p (timer-off false most left t refl)

steady-on : (x o : Bool) {n m : ℕ} → (x ≡ true → o ≡ true → ⊥) → (x ≡ false → n ≡ m) → o ≡ true → n ≡ m
steady-on true o t f e = absurd (t refl e)
steady-on false o t f e = f refl

-- the seconds left of a timer after a move
pub left_after_lem : (left : List ℕ) (m : Move) (most : List ℕ) → length left ≡ timers → (t : ℕ) → t < timers → (a z : Bool) → eqb t m.start ≡ a → eqb t m.stop ≡ z
    → get_or (left_after left m most) t 0 ≡ pick a (get_or most t 0) (pick z 0 (get_or left t 0))
unfolding left_after
left_after_lem left m most n t h true z p q =
    let e = eqb-true t m.start p in
    let k = length-set left m.stop 0 in
    rw e (get_or-set_same (set left m.stop 0) m.start (get_or most m.start 0) 0 (omega arith))
left_after_lem left m most n t h false true p q =
    let e = eqb-true t m.stop q in
    get_or-set_other (set left m.stop 0) m.start t (get_or most m.start 0) 0 (eqb-false t m.start p)
    ∙ rw e (get_or-set_same left m.stop 0 0 (omega arith))
left_after_lem left m most n t h false false p q =
    get_or-set_other (set left m.stop 0) m.start t (get_or most m.start 0) 0 (eqb-false t m.start p)
    ∙ get_or-set_other left m.stop t 0 0 (eqb-false t m.stop q)

-- a part that fits
pub stepped-sound : (b : Tables) → T (all_fit b) → (v : View) (p : Part) → Sound b v → Fit b v p → Sound b (stepped v p)
unfolding stepped left_after
stepped-sound b test v p s f =
    record {
      lefts = length-set (set v.left m.stop 0) m.start (get_or p.most m.start 0) ∙ length-set v.left m.stop 0 ∙ s.lefts;
      states = length-set v.at m.who m.to ∙ s.states;
      fine = make-good b (stepped v p) (balanced-states b v.at m f.moves) timer;
    }
  where
    m : Move
    m = p.move

    timer : (t : ℕ) → t < timers → T (timer_ok (runs b.watch t (set v.at m.who m.to)) (get_or p.most t 0) (get_or (left_after v.left m p.most) t 0))
    timer t h =
        let e = timed b test v.at m (good-states b v s) f.moves t h in
        subst₂ (λ (r : Bool) (x : ℕ). T (timer_ok r (get_or p.most t 0) x)) (sym e.agrees) (sym (left_after_lem v.left m p.most s.lefts t h (eqb t m.start) (eqb t m.stop) refl refl))
        (timer-kept (runs b.watch t v.at) (get_or v.most t 0) (get_or v.left t 0) (get_or p.most t 0) (good-timer b v s t h) (f.loads t h) (eqb t m.start) (eqb t m.stop)
        (steady-on (eqb m.who (b.changer t)) (on_through b.watch v.at m t) e.steady (f.steady t h)))

pub steps-sound : (b : Tables) → T (all_fit b) → (v : View) (ps : List Part) → Sound b v → Fits b v ps → Sound b (steps v ps)
steps-sound b test v [] s f = s
steps-sound b test v (p ∷ ps) s f = steps-sound b test (stepped v p) ps (stepped-sound b test v p s f.0) f.1

-- seconds pass, and no timer is due
pub left-later : (n : ℕ) (left : List ℕ) (t : ℕ) → get_or (later n left) t 0 ≡ get_or left t 0 - n
unfolding later
left-later n left t =
    let z : 0 - n ≡ 0 = omega arith in
    subst (λ (k : ℕ). get_or (map (λ x. x - n) left) t k ≡ get_or left t 0 - n) z (get_or-map (λ x. x - n) left t 0)

-- a timer that runs and isn't due has more than n left
pub more_left : (n left : ℕ) → 1 ≤ left → T (not (due n left)) → n < left
unfolding due
more_left n left on d = nleb→lt left n (subst (λ (b : Bool). T (not (both b (leb left n)))) (le-leb 1 left on) d)

later-ok : (run : Bool) (most x n : ℕ) → T (timer_ok run most x) → T (not (due n x)) → T (timer_ok run most (x - n))
later-ok true most x n t d =
    let h = timer-on true most x t refl in
    let more = more_left n x h.0 d in
    on-ok most (x - n) (omega arith) (omega arith)
later-ok false most x n t d =
    let e = timer-off false most x t refl in
    off-ok most (x - n) (timer-parts false most x t).0 (omega arith)

pub waited-sound : (b : Tables) (v : View) (n : ℕ) → Sound b v → T (below timers (not_due n v.left)) → Sound b (waited v n)
unfolding waited not_due later
waited-sound b v n s d =
    record {
      lefts = length-map v.left (λ x. x - n) ∙ s.lefts;
      states = s.states;
      fine =
          make-good b (waited v n) (good-states b v s)
          (λ t h. subst (λ (x : ℕ). T (timer_ok (runs b.watch t v.at) (get_or v.most t 0) x)) (sym (left-later n v.left t)) (later-ok (runs b.watch t v.at) (get_or v.most t 0) (get_or v.left t 0) n (good-timer b v s t h) (below_at timers (not_due n v.left) d t h)));
    }

not-runs : (x : Bool) → T (not x) → x ≡ false
not-runs true t = absurd t
not-runs false t = refl

zeros : (n t : ℕ) → ◌≡◌ {A = ℕ} (get_or (replicate n 0) t 0) 0
zeros zero t = refl
zeros (suc n) zero = refl
zeros (suc n) (suc t) = zeros n t

-- everything stops
pub rested-sound : (b : Tables) → T (all_fit b) → (li : ℕ) (most : List ℕ) → T (b.rests li) → li ≤ get_or b.tops 4 0 → Loads most → Sound b (rested li most)
unfolding rested rest_at
rested-sound b test li most r top loads =
    let u = rest-fits b test li r top in
    let ok = states_ok b (rest_at li) in
    let off = below timers (λ t. not (runs b.watch t (rest_at li))) in
    record {
      lefts = refl;
      states = refl;
      fine =
          make-good b (rested li most) (both_left ok off u)
          (λ t h. subst (λ (x : Bool). T (timer_ok x (get_or most t 0) (get_or (replicate timers 0) t 0))) (sym (not-runs (runs b.watch t (rest_at li)) (below_at timers (λ k. not (runs b.watch k (rest_at li))) (both_right ok off u) t h))) (off-ok (get_or most t 0) (get_or (replicate timers 0) t 0) (loads t h) (zeros timers t)));
    }
