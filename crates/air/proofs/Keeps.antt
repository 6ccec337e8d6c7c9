-- A good air link as the machinery sees it, and what its starts load. Assumes nothing.
use mathlib.Core.Path.{◌≡◌, refl}
use mathlib.Core.Bool.{Bool, true, false}
use Prim.Native.Nat.{ℕ, ◌≤◌}
use lib.Dec.{T, eqb, lit≤}
use lib.ListN.{length, get_or, replicate, get_or-replicate}
use lib.Seq.{get_or-set_other}
use borrow.Author.Tests.{eqb-true, eqb-false}
use Rattle.link.specs.Names.{timers}
use Rattle.link.specs.Watch.{seconds_ok}
use Rattle.link.specs.Step.{rest_at}
use Rattle.link.proofs.Laws.{both_left, both_right, both-T, seconds-range}
use Rattle.sides.specs.Runs.{Sound, Loads, timers_ok, rested}
use Rattle.sides.proofs.Keeps.{rested-sound}
use Rattle.air_tables.specs.Names.{EM3, LI-IDLE}
use Rattle.air_tables.specs.Tables.{air_tables, tops}
use Rattle.air_tables.proofs.Fitting.{air-fits}
use Rattle.air_answer.specs.Record.{loads, view, good, fresh}
use Rattle.air_answer.specs.declared.record.AirLink.{AirLink}

pub record Fine (l : AirLink) : Type 0 where
  pub lefts : length l.left ≡ timers
  pub states : length l.at ≡ 5
  pub fine : T (good l)

pub good-setting : (l : AirLink) → Fine l → T (seconds_ok l.setting)
unfolding good
good-setting l f = both_left (seconds_ok l.setting) (timers_ok air_tables (view l)) f.fine

pub fine-sound : (l : AirLink) → Fine l → Sound air_tables (view l)
unfolding good
fine-sound l f = record { lefts = f.lefts; states = f.states; fine = both_right (seconds_ok l.setting) (timers_ok air_tables (view l)) f.fine }

pub make-fine : (l : AirLink) → T (seconds_ok l.setting) → Sound air_tables (view l) → Fine l
unfolding good
make-fine l h s = record { lefts = s.lefts; states = s.states; fine = both-T (seconds_ok l.setting) (timers_ok air_tables (view l)) h s.fine }

-- ---- what a start loads

-- EM3's is the setting
pub em3-loads : (l : AirLink) → get_or (loads l) EM3 0 ≡ l.setting
unfolding loads
em3-loads l = refl

-- at least a second
pub loads-one : (l : AirLink) → T (seconds_ok l.setting) → Loads (loads l)
unfolding loads
loads-one l h t lt = go (eqb t EM3) refl
  where
    go : (x : Bool) → eqb t EM3 ≡ x → 1 ≤ get_or (loads l) t 0
    go true q = rw (eqb-true t EM3 q, em3-loads l) (seconds-range l.setting h).0
    go false q =
        rw (get_or-set_other (replicate timers 1) EM3 t l.setting 0 (eqb-false t EM3 q), get_or-replicate {A = ℕ} timers t 1 0 lt) (lit≤ tt)

pub fine-loads : (l : AirLink) → Fine l → Loads (loads l)
fine-loads l f = loads-one l (good-setting l f)

-- a fresh link with a good setting
pub fresh-fine : (s : ℕ) → T (seconds_ok s) → Fine (fresh s)
unfolding fresh rested rest_at air_tables tops
fresh-fine s h = make-fine (fresh s) h (rested-sound air_tables air-fits LI-IDLE (loads (fresh s)) tt (lit≤ tt) (loads-one (fresh s) h))
