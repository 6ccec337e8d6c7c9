-- Demand 3, from the theorems of `ground`. Assumes nothing.
use mathlib.Core.Path.{◌≡◌}
use mathlib.Core.List.{List}
use Prim.Native.Nat.{ℕ, ◌≤◌, ◌<◌}
use lib.Dec.{T, leb}
use lib.ListN.{get_or}
use borrow.Author.Tests.{le-leb, eq-eqb}
use Rattle.link.specs.Names.{timers, EC}
use Rattle.link.specs.Tests.{both, below}
use Rattle.link.specs.Watch.{setting_ok}
use Rattle.link.proofs.Laws.{both-T, below_all, eq-T}
use Rattle.ground_tables.specs.Names.{ACTIVE, EC1, EC2}
use Rattle.ground.specs.Runs.{Made, ground}
use Rattle.ground.proofs.Promises.{loads-most, intervals-held}
use Rattle.ground.proofs.Demand3.{demand3-first, demand3-second, event-contract-no-clock}
use Rattle.promises.specs.Sides.{Named}
use Rattle.promises.specs.Timers.{Settings, played, ceiling, Timers}

pub good-settings : (s : List ℕ) → Settings s → T (below timers (setting_ok s))
unfolding setting_ok
good-settings s h =
    below_all timers (λ t. both (leb 1 (get_or s t 0)) (leb (get_or s t 0) 86400))
    (λ t lt. both-T (leb 1 (get_or s t 0)) (leb (get_or s t 0) 86400) (eq-T _ (le-leb 1 (get_or s t 0) (h.least t lt))) (eq-T _ (le-leb (get_or s t 0) 86400 (h.most t lt))))

module _ (s : List ℕ) (h : Settings s) where
  abbrev ok : T (below timers (setting_ok s))
  ok = good-settings s h

  no_more : (cs : List Made) (t : ℕ) → t < timers → Named ground (played s cs) t → get_or (played s cs).left t 0 ≤ ceiling s (played s cs) t
  no_more cs t lt on = rw (loads-most s h.ten ok cs t) at ((demand3-first s h.ten ok cs t lt).runs_left on).1

  silent-event : (cs : List Made) → get_or (played s cs).at EC 0 ≡ ACTIVE → (get_or (played s cs).left EC1 0 ≡ 0) × (get_or (played s cs).left EC2 0 ≡ 0)
  silent-event cs on = event-contract-no-clock s h.ten ok cs (eq-eqb _ ACTIVE on)

pub timers-hold : Timers
timers-hold = record {
  watched = λ s h. record {
    at_least_one = λ cs t lt on. ((demand3-first s h.ten (good-settings s h) cs t lt).runs_left on).0;
    no_more = no_more s h;
    no_other = λ cs t lt off. (demand3-first s h.ten (good-settings s h) cs t lt).else_none off;
  };
  expires = λ s h octets before t lt k one is cs u n most reach. demand3-second s h.ten (good-settings s h) before t lt k one is cs u n most reach octets;
  intervals = λ s h. intervals-held s h.ten (good-settings s h);
  no_clock = silent-event;
}
