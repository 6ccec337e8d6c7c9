-- A good link as the machinery sees it, and what its starts load. Assumes nothing.
use mathlib.Core.Path.{◌≡◌, refl, sym, ap, ◌∙◌}
use mathlib.Core.Bool.{Bool, true, false}
use mathlib.Core.List.{List}
use Prim.Native.Nat.{ℕ, ◌+◌, ◌^◌, ◌<◌, ◌≤◌}
use native.Mathlib.Omega.{arith}
use native.Mathlib.Nat.{mod-eq_of_lt}
use lib.Dec.{T, eqb, lit≤, lit<}
use lib.ListN.{length, get_or}
use lib.Seq.{get_or-set_same, get_or-set_other}
use borrow.Author.Tests.{eqb-true, eqb-false}
use Rattle.link.specs.Tests.{both, pick, below}
use Rattle.link.specs.Names.{timers, PC}
use Rattle.link.specs.Watch.{setting_ok}
use Rattle.link.specs.Step.{rest_at}
use Rattle.link.proofs.Laws.{both_left, both_right, both-T, below_at, seconds-range}
use Rattle.sides.specs.Runs.{Sound, Loads, timers_ok, rested}
use Rattle.sides.proofs.Keeps.{rested-sound}
use Rattle.ground_tables.specs.Names.{PC2, LI-IDLE}
use Rattle.ground_tables.specs.Intervals.{INTERVAL-MOST, no_intervals, interval_ok, intervals_ok}
use Rattle.ground_tables.specs.declared.intervals.Intervals.{Intervals}
use Rattle.ground_tables.specs.Tables.{ground_tables, tops}
use Rattle.ground_tables.proofs.Fitting.{ground-fits}
use Rattle.ground_tables.proofs.KeptIntervals.{force-most}
use Rattle.ground_answer.specs.Record.{holding, loads, view, good, fresh}
use Rattle.ground_answer.specs.declared.record.Link.{Link}

pub record Fine (l : Link) : Type 0 where
  pub settings : length l.setting ≡ timers
  pub lefts : length l.left ≡ timers
  pub states : length l.at ≡ 5
  pub fine : T (good l)

-- its settings, its intervals, its timers
good-parts : (l : Link) → T (good l)
    → T (below timers (setting_ok l.setting)) × (T (intervals_ok (get_or l.at PC 0) l.interval) × T (timers_ok ground_tables (view l)))
unfolding good
good-parts l g =
    let a = below timers (setting_ok l.setting) in
    let i = intervals_ok (get_or l.at PC 0) l.interval in
    let b = timers_ok ground_tables (view l) in
    let r = both_right a (both i b) g in
    (both_left a (both i b) g, (both_left i b r, both_right i b r))

pub good-settings : (l : Link) → Fine l → T (below timers (setting_ok l.setting))
good-settings l f = (good-parts l f.fine).0

pub good-intervals : (l : Link) → Fine l → T (intervals_ok (get_or l.at PC 0) l.interval)
good-intervals l f = (good-parts l f.fine).1.0

pub fine-sound : (l : Link) → Fine l → Sound ground_tables (view l)
fine-sound l f = record { lefts = f.lefts; states = f.states; fine = (good-parts l f.fine).1.1 }

pub make-fine : (l : Link) → length l.setting ≡ timers → T (below timers (setting_ok l.setting)) → T (intervals_ok (get_or l.at PC 0) l.interval)
    → Sound ground_tables (view l) → Fine l
unfolding good
make-fine l e a i s =
    record {
      settings = e;
      lefts = s.lefts;
      states = s.states;
      fine = both-T (below timers (setting_ok l.setting)) _ a (both-T (intervals_ok (get_or l.at PC 0) l.interval) _ i s.fine);
    }

setting-range : (s : List ℕ) → T (below timers (setting_ok s)) → (t : ℕ) → t < timers → (1 ≤ get_or s t 0) × (get_or s t 0 ≤ 86400)
unfolding setting_ok
setting-range s h t lt = seconds-range (get_or s t 0) (below_at timers (setting_ok s) h t lt)

-- ---- what a start loads

-- the setting, and for PC2 the interval in force as well: the sum of a good record has room
pub pc2-loads : (l : Link) → length l.setting ≡ timers → T (below timers (setting_ok l.setting)) → l.interval.force ≤ INTERVAL-MOST
    → get_or (loads l) PC2 0 ≡ get_or l.setting PC2 0 + l.interval.force
unfolding loads
pc2-loads l n h f =
    let r = setting-range l.setting h PC2 (lit< tt) in
    let room : get_or l.setting PC2 0 + l.interval.force < 2 ^ 32 = omega arith in
    get_or-set_same l.setting PC2 _ 0 (omega arith) ∙ mod-eq_of_lt room

pub other-loads : (l : Link) (t : ℕ) → eqb t PC2 ≡ false → get_or (loads l) t 0 ≡ get_or l.setting t 0
unfolding loads
other-loads l t q = get_or-set_other l.setting PC2 t _ 0 (eqb-false t PC2 q)

-- at least a second
pub loads-one : (l : Link) → length l.setting ≡ timers → T (below timers (setting_ok l.setting)) → l.interval.force ≤ INTERVAL-MOST → Loads (loads l)
loads-one l n h f t lt = go (eqb t PC2) refl
  where
    go : (x : Bool) → eqb t PC2 ≡ x → 1 ≤ get_or (loads l) t 0
    go true q = rw (eqb-true t PC2 q) (omega (arith, pc2-loads l n h f, setting-range l.setting h PC2 (lit< tt)))
    go false q = rw (other-loads l t q) (setting-range l.setting h t lt).0

pub fine-loads : (l : Link) → Fine l → Loads (loads l)
fine-loads l f = loads-one l f.settings (good-settings l f) (force-most (get_or l.at PC 0) l.interval (good-intervals l f))

-- and with other intervals what is loaded changes by moves of PC alone
pub loads-steady : (l : Link) (i : Intervals) (who : ℕ) → (eqb who PC ≡ false → i ≡ l.interval) → (t : ℕ) → eqb who (pick (eqb t PC2) PC 5) ≡ false
    → get_or (loads (holding l i)) t 0 ≡ get_or (loads l) t 0
loads-steady l i who h t = go (eqb t PC2) refl
  where
    go : (x : Bool) → eqb t PC2 ≡ x → eqb who (pick x PC 5) ≡ false → get_or (loads (holding l i)) t 0 ≡ get_or (loads l) t 0
    go true q e = ap (λ (j : Intervals). get_or (loads (holding l j)) t 0) (h e)
    go false q e = other-loads (holding l i) t q ∙ sym (other-loads l t q)

-- a fresh link with good settings
fresh-intervals : T (intervals_ok 0 no_intervals)
unfolding intervals_ok interval_ok
fresh-intervals = tt

pub fresh-fine : (s : List ℕ) → length s ≡ timers → T (below timers (setting_ok s)) → Fine (fresh s)
unfolding fresh rested rest_at ground_tables tops
fresh-fine s e h =
    make-fine (fresh s) e h fresh-intervals
    (rested-sound ground_tables ground-fits LI-IDLE (loads (fresh s)) tt (lit≤ tt) (loads-one (fresh s) e h (lit≤ tt)))
