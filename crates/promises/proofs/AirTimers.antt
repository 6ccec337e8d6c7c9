-- Demand 3 of the air link, from the theorems of `air`. Assumes nothing.
use mathlib.Core.Path.{◌≡◌, refl, sym, ◌∙◌}
use mathlib.Core.Bool.{Bool, true, false}
use mathlib.Core.List.{List}
use Prim.Native.Nat.{ℕ, zero, suc, ◌≤◌, ◌<◌}
use native.Mathlib.Omega.{arith}
use lib.Dec.{T, eqb, leb, ltb}
use lib.ListN.{get_or, set, replicate, get_or-replicate}
use lib.Seq.{get_or-set_other}
use borrow.Author.Tests.{le-leb, lt-leb, eq-eqb, ne_eqb, eqb-true, eqb-false}
use Rattle.link.specs.Names.{timers, EM}
use Rattle.link.specs.Tests.{both}
use Rattle.link.specs.Watch.{seconds_ok, runs}
use Rattle.link.proofs.Laws.{both-T, eq-T, no_true}
use Rattle.air_tables.specs.Names.{CANCEL, EM3}
use Rattle.air_tables.specs.Watch.{air_watch}
use Rattle.air_tables.specs.Tables.{air_tables}
use Rattle.air.specs.Runs.{Made, air_side}
use Rattle.air.proofs.Promises.{em3-most, cancel-watched, else_none}
use Rattle.air.proofs.Demand3.{demand3-first, demand3-second}
use Rattle.promises.specs.Sides.{Named, left_of}
use Rattle.promises.specs.Air.{Setting, flown, AirTimers}

pub good-setting : (s : ℕ) → Setting s → T (seconds_ok s)
good-setting s h = both-T (leb 1 s) (leb s 86400) (eq-T _ (le-leb 1 s h.least)) (eq-T _ (le-leb s 86400 h.most))

-- the other rows of the table name no state
no-state : (b c : Bool) (x : ℕ) → both b (both (leb 1 x) (both (leb x 0) c)) ≡ false
no-state false c x = refl
no-state true c zero = refl
no-state true c (suc x) = rw (le-leb 1 (suc x) (omega arith), lt-leb (suc x) 0 (omega arith))

other-off : (t : ℕ) → t < timers → (t ≡ EM3 → ⊥) → (at : List ℕ) → runs air_watch t at ≡ false
unfolding runs air_watch
other-off t lt ne at =
    let who = get_or (set (replicate timers 5) EM3 EM) t 0 in
    rw (get_or-set_other (replicate timers 1) EM3 t CANCEL 0 ne, get_or-set_other (replicate timers 0) EM3 t CANCEL 0 ne, get_or-replicate {A = ℕ} timers t 1 0 lt, get_or-replicate {A = ℕ} timers t 0 0 lt)
    (no-state (ltb t timers) (leb (get_or at EM 0) (get_or (replicate timers CANCEL) t 0)) (get_or at who 0))

module _ (s : ℕ) (h : Setting s) where
  abbrev ok : T (seconds_ok s)
  ok = good-setting s h

  -- a timer that the table names is EM3, whose start loads the setting
  no_more : (cs : List Made) (t : ℕ) → t < timers → Named air_side (flown s cs) t → left_of air_side (flown s cs) t ≤ s
  unfolding air_tables
  no_more cs t lt on = go (eqb t EM3) refl
    where
      go : (b : Bool) → eqb t EM3 ≡ b → get_or (flown s cs).left t 0 ≤ s
      go true e = let is = eqb-true t EM3 e in rw is (rw (is, em3-most s ok cs) at ((demand3-first s ok cs t lt).runs_left on).1)
      go false e = absurd (no_true (sym on ∙ other-off t lt (eqb-false t EM3 e) (flown s cs).at))

  other_none : (cs : List Made) (t : ℕ) → t < timers → (t ≡ EM3 → ⊥) → get_or (flown s cs).left t 0 ≡ 0
  unfolding air_tables
  other_none cs t lt ne = (demand3-first s ok cs t lt).else_none (other-off t lt ne (flown s cs).at)

pub air-timers : AirTimers
air-timers = record {
  watched = λ s h. record {
    at_least_one = λ cs t lt on. ((demand3-first s (good-setting s h) cs t lt).runs_left on).0;
    no_more = no_more s h;
    no_other = λ cs t lt off. (demand3-first s (good-setting s h) cs t lt).else_none off;
  };
  expires = λ s h list octets before t lt k one is cs u n most reach. demand3-second s (good-setting s h) before t lt k one is cs u n most reach list octets;
  in_cancel = λ s h cs e. cancel-watched s (good-setting s h) cs (eq-eqb _ CANCEL e);
  elsewhere = λ s h cs e. else_none s (good-setting s h) cs (ne_eqb _ CANCEL e);
  em3_alone = other_none;
}
