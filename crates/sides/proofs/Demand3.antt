-- Demand 3, both sentences, for every side whose tables fit and whose calls do what the machinery can. Assumes nothing.
use mathlib.Core.Path.{◌≡◌, refl, subst, sym, ap, ◌∙◌}
use mathlib.Core.Bool.{Bool, true, false}
use mathlib.Core.List.{List, [], ◌∷◌, ◌++◌}
use Prim.Native.Nat.{ℕ, ◌+◌, ◌<◌, ◌≤◌}
use native.Mathlib.Omega.{arith}
use native.Mathlib.Nat.{add-zero}
use lib.Dec.{T, eqb}
use lib.ListN.{length, get_or}
use borrow.Author.Tests.{le-leb}
use Rattle.link.specs.Names.{timers}
use Rattle.link.specs.Tests.{below}
use Rattle.link.specs.Watch.{runs}
use Rattle.link.specs.Clock.{due, not_due, stops_of}
use Rattle.link.specs.Step.{acts_of}
use Rattle.link.specs.declared.acts.Acts.{Acts}
use Rattle.link.proofs.Laws.{below_at, below_fails}
use Rattle.sides.specs.Tables.{Tables, all_fit, member}
use Rattle.sides.specs.Runs.{View, Sound, Part, stepped, steps, said_of, Fits, waited, rested, Does, waits, plays, stops, Side, after, seconds, total, touches, Untouched, Watched}
use Rattle.sides.proofs.Keeps.{good-timer, timer-on, timer-off, left_after_lem, stepped-sound, steps-sound, left-later, more_left, waited-sound, rested-sound}
use Rattle.sides.proofs.Stops.{member-left, member_right, stops-member, acts-stop, acts-start, untouched}

-- what a call does leaves a good record good
does-sound : (b : Tables) → T (all_fit b) → {v w : View} {s : ℕ} {a : Acts} → Sound b v → Does b v s a w → Sound b w
does-sound b test {v} {w} {s} k (waits d l e) = subst (Sound b) (sym e) (waited-sound b v s k d)
does-sound b test {v} k (plays ps more f z l e) = subst (Sound b) (sym e) (steps-sound b test v ps k f)
does-sound b test k (stops li most ps more r top loads f l e) =
    subst (Sound b) (sym e) (steps-sound b test (rested li most) ps (rested-sound b test li most r top loads) f)

not_so : (b : Bool) → (b ≡ true → ⊥) → b ≡ false
not_so true f = absurd (f refl)
not_so false f = refl

module _ (b : Tables) (test : T (all_fit b)) (t : ℕ) (in_order : t < timers) where
  -- a move that neither stops nor starts a timer leaves its seconds
  one-step : (v : View) (p : Part) → length v.left ≡ timers → eqb t p.move.start ≡ false → eqb t p.move.stop ≡ false
      → get_or (stepped v p).left t 0 ≡ get_or v.left t 0
  unfolding stepped
  one-step v p n d e = left_after_lem v.left p.move p.most n t in_order false false d e

  -- and so do moves whose actions do not name it
  steps-left : (v : View) (ps : List Part) → Sound b v → Fits b v ps → (member (16 + t) (said_of ps) ≡ true → ⊥) → (member (32 + t) (said_of ps) ≡ true → ⊥)
      → get_or (steps v ps).left t 0 ≡ get_or v.left t 0
  steps-left v [] k f x y = refl
  steps-left v (p ∷ ps) k f x y =
      steps-left (stepped v p) ps (stepped-sound b test v p k f.0) f.1
      (λ q. x (member_right (16 + t) (acts_of p.move p.send) (said_of ps) q)) (λ q. y (member_right (32 + t) (acts_of p.move p.send) (said_of ps) q))
      ∙ one-step v p k.lefts
      (not_so (eqb t p.move.start) (λ q. y (member-left (32 + t) (acts_of p.move p.send) (said_of ps) (acts-start p.move p.send t in_order q))))
      (not_so (eqb t p.move.stop) (λ q. x (member-left (16 + t) (acts_of p.move p.send) (said_of ps) (acts-stop p.move p.send t in_order q))))

  -- what a call that does not touch a running timer leaves of it
  abbrev Left : View → View → ℕ → Type 0
  Left v w n = (get_or w.left t 0 + n ≡ get_or v.left t 0) × (1 ≤ get_or w.left t 0)

  waited-left : (v : View) (n : ℕ) → 1 ≤ get_or v.left t 0 → T (below timers (not_due n v.left)) → Left v (waited v n) n
  unfolding waited not_due
  waited-left v n on d =
      let more = more_left n (get_or v.left t 0) on (below_at timers (not_due n v.left) d t in_order) in
      let p = left-later n v.left t in
      (omega arith, omega arith)

  -- a running timer loses the accepted seconds of every call that does not touch it
  does-left : {v w : View} {s : ℕ} {a : Acts} → Sound b v → 1 ≤ get_or v.left t 0 → touches t a ≡ false → Does b v s a w → Left v w s
  does-left {v} {w} {s} k on u (waits d l e) = subst (λ (x : View). Left v x s) (sym e) (waited-left v s on d)
  does-left {v} {w} {s} {a} k on u (plays ps more f z l e) =
      let free = untouched t a (said_of ps ++ more) l u in
      let p = ap (λ (x : View). get_or x.left t 0) e ∙ steps-left v ps k f (λ q. free.0 (member-left (16 + t) (said_of ps) more q)) (λ q. free.1 (member-left (32 + t) (said_of ps) more q)) in
      (omega arith, omega arith)
  does-left {v} {w} {s} {a} k on u (stops li most ps more r top loads f l e) =
      absurd ((untouched t a (stops_of timers v.left ++ (said_of ps ++ more)) l u).0 (member-left (16 + t) (stops_of timers v.left) (said_of ps ++ more) (stops-member v.left timers t in_order (le-leb 1 _ on))))

  -- an elapse that reaches a running timer's seconds finds it due
  due-now : (v : View) (n : ℕ) → 1 ≤ get_or v.left t 0 → get_or v.left t 0 ≤ n → below timers (not_due n v.left) ≡ false
  unfolding not_due due
  due-now v n on le = below_fails (not_due n v.left) timers t in_order (rw (le-leb 1 _ on, le-leb _ n le))

-- what a side has to show: an invariant of its record that makes the timers good, that every call keeps, under which each call does what the machinery
-- can; and that an elapse at which a timer is due is the abort
pub record Lawful (s : Side) : Type 1 where
  pub fit : T (all_fit s.tables)
  pub Fine : s.Rec → Type 0
  pub sound : (r : s.Rec) → Fine r → Sound s.tables (s.view r)
  pub keeps : (r : s.Rec) (c : s.Call) → Fine r → Sound s.tables (s.view (s.next (s.reply r c))) → Fine (s.next (s.reply r c))
  pub does : (r : s.Rec) (c : s.Call) → Fine r → Does s.tables (s.view r) (seconds s r c) (s.said (s.reply r c)) (s.view (s.next (s.reply r c)))
  pub expires : (r : s.Rec) (n : ℕ) → Fine r → n ≤ 86400 → below timers (not_due n (s.view r).left) ≡ false → s.reply r (s.elapse n) ≡ s.abort r

module _ (s : Side) (k : Lawful s) where
  reply-fine : (r : s.Rec) (c : s.Call) → k.Fine r → k.Fine (s.next (s.reply r c))
  reply-fine r c f = k.keeps r c f (does-sound s.tables k.fit (k.sound r f) (k.does r c f))

  pub after-fine : (r : s.Rec) (cs : List s.Call) → k.Fine r → k.Fine (after s r cs)
  unfolding after
  after-fine r [] f = f
  after-fine r (c ∷ cs) f = after-fine (s.next (s.reply r c)) cs (reply-fine r c f)

  -- "After any sequence of calls from a fresh link with good settings, the running timers are exactly those the watch table names for the present states, each
  -- with at least one second left and no more than its setting."
  pub demand3-first : (r : s.Rec) → k.Fine r → (cs : List s.Call) (t : ℕ) → t < timers → Watched s (after s r cs) t
  demand3-first r f cs t lt =
      let w = after s r cs in
      let v = s.view w in
      let g = good-timer s.tables v (k.sound w (after-fine r cs f)) t lt in
      record {
        runs_left = timer-on (runs s.tables.watch t v.at) (get_or v.most t 0) (get_or v.left t 0) g;
        else_none = timer-off (runs s.tables.watch t v.at) (get_or v.most t 0) (get_or v.left t 0) g;
      }

  left-steps : (t : ℕ) → t < timers → (r : s.Rec) (cs : List s.Call) → k.Fine r → 1 ≤ get_or (s.view r).left t 0 → Untouched s t r cs
      → (get_or (s.view (after s r cs)).left t 0 + total s r cs ≡ get_or (s.view r).left t 0) × (1 ≤ get_or (s.view (after s r cs)).left t 0)
  unfolding after total Untouched
  left-steps t lt r [] f on u = (add-zero _, on)
  left-steps t lt r (c ∷ cs) f on u =
      let a = does-left s.tables k.fit t lt (k.sound r f) on u.0 (k.does r c f) in
      let b = left-steps t lt (s.next (s.reply r c)) cs (reply-fine r c f) a.1 u.1 in
      (omega arith, b.1)

  -- "If a timer has k seconds left, and no call starts or stops it before its accepted elapsed seconds first total k or more, then the call that gets there
  -- aborts the link."
  pub demand3-second : (r : s.Rec) → k.Fine r → (before : List s.Call) (t : ℕ) → t < timers → (n : ℕ) → 1 ≤ n → get_or (s.view (after s r before)).left t 0 ≡ n
      → (cs : List s.Call) → Untouched s t (after s r before) cs → (m : ℕ) → m ≤ 86400 → n ≤ total s (after s r before) cs + m
      → s.reply (after s (after s r before) cs) (s.elapse m) ≡ s.abort (after s (after s r before) cs)
  demand3-second r f before t lt n one is cs u m most reach =
      let l = after s r before in
      let g = after-fine r before f in
      let left = left-steps t lt l cs g (subst (λ (j : ℕ). 1 ≤ j) (sym is) one) u in
      k.expires (after s l cs) m (after-fine l cs g) most (due-now s.tables k.fit t lt (s.view (after s l cs)) m left.1 (omega (arith, left.0)))
