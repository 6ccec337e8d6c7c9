-- A link that closes is watched too, from demand 3 as the page has it. Assumes nothing.
use mathlib.Core.Path.{◌≡◌, refl}
use mathlib.Core.Bool.{true}
use mathlib.Core.List.{List}
use Prim.Native.Nat.{ℕ, ◌<◌}
use native.Mathlib.Omega.{arith}
use lib.Dec.{T, leb, lit<}
use lib.ListN.{get_or}
use Rattle.link.specs.Names.{timers, EM, LI}
use Rattle.link.specs.Tests.{below}
use Rattle.link.specs.Step.{begun, added}
use Rattle.link.specs.Watch.{runs, state_ok}
use Rattle.link.proofs.Laws.{T-eq, below_at, both_left}
use Rattle.sides.specs.Tables.{states_ok}
use Rattle.sides.proofs.Keeps.{good-states}
use Rattle.ground_tables.specs.Names.{MODIFY, LI1, LI-END}
use Rattle.ground_tables.specs.Watch.{ground_watch}
use Rattle.ground_tables.specs.Tables.{li_ok, tops, ground_tables}
use Rattle.ground_answer.specs.Record.{fresh, followed, good, view}
use Rattle.ground_answer.specs.declared.record.Link.{Link}
use Rattle.ground.specs.Arrivals.{arrived, late_data}
use Rattle.ground.specs.Runs.{answered, Made, ground}
use Rattle.ground.specs.declared.call.Call.TheVariants.{Data}
use Rattle.ground.proofs.Keeps.{Fine, fine-sound, fresh-fine}
use Rattle.ground.proofs.Demand3.{after-fine}
use Rattle.promises.proofs.Timers.{good-settings, timers-hold}
use Rattle.promises.specs.Sides.{Named}
use Rattle.promises.specs.Timers.{Settings, played, Timers, Closing}

-- EM is in one of its states, at each of which LI1 may run
em-state : (l : Link) → Fine l → leb (get_or l.at EM 0) MODIFY ≡ true
unfolding states_ok state_ok ground_tables tops
em-state l f =
    T-eq _
    (below_at 5 (state_ok tops l.at) (both_left (below 5 (state_ok tops l.at)) (li_ok l.at) (good-states ground_tables (view l) (fine-sound l f))) EM (lit< tt))

li1-runs : (l : Link) → Fine l → get_or l.at LI 0 ≡ LI-END → Named ground l LI1
unfolding runs ground_tables ground_watch
li1-runs l f e = rw (e, em-state l f)

played-fine : (s : List ℕ) → Settings s → (cs : List Made) → Fine (played s cs)
played-fine s h cs = after-fine (fresh s) cs (fresh-fine s h.ten (good-settings s h))

late-leaves : (l : Link) (octets : List ℕ) → T (good l) → get_or l.at LI 0 ≡ LI-END → (answered l Data octets).link ≡ l
unfolding answered arrived late_data added begun followed
late-leaves l octets g e = rw (T-eq (good l) g, e)

-- from demand 3 as it stands on the page
follows : Timers → Closing
follows d =
    record {
      ends = λ s h before e cs u n most reach octets.
          let on = li1-runs (played s before) (played-fine s h before) e in
          let w = d.watched s h in
          let lt : LI1 < timers = lit< tt in
          d.expires s h octets before LI1 lt (get_or (played s before).left LI1 0) (w.at_least_one before LI1 lt on) refl cs u n most
          (omega (arith, w.no_more before LI1 lt on, reach));
      late = late-leaves;
    }

pub closing : Closing
closing = follows timers-hold
