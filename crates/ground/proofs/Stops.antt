-- No action list is cut: at most four timers run, so the stops of all of them and what follows have room. Assumes nothing.
use mathlib.Core.Path.{◌≡◌}
use mathlib.Core.List.{[], ◌∷◌, ◌++◌}
use Prim.Native.Nat.{ℕ, ◌+◌}
use lib.Dec.{lit≤}
use Rattle.link.specs.Names.{timers, START}
use Rattle.link.specs.Acts.{acts, pushed_all}
use Rattle.link.specs.Clock.{stops_of}
use Rattle.link.specs.Step.{acts_of}
use Rattle.sides.proofs.Ways.{stopped-said, then-said, abort-said}
use Rattle.ground_tables.specs.Names.{LI1, LI-ACTIVE}
use Rattle.ground_tables.specs.Moves.{li_end}
use Rattle.ground_tables.proofs.Fitting.{ground-fits}
use Rattle.ground_tables.specs.Tables.{ground_tables}
use Rattle.ground_answer.specs.Record.{loads, cleared, view}
use Rattle.ground_answer.specs.declared.record.Link.{Link}
use Rattle.ground_answer.specs.Answers.{END-REQUEST}
use Rattle.ground_answer.specs.Aborts.{aborted, closed}
use Rattle.ground.specs.Requests.{cancelled}
use Rattle.ground.proofs.Keeps.{Fine, fine-sound}

-- the stops of a good link are all said, and so is what follows them
pub closed-list : (l : Link) (entry reason : ℕ) → Fine l → (closed l entry reason).said.acts ≡ acts (stops_of timers l.left ++ (entry ∷ []))
unfolding closed
closed-list l entry reason f = then-said ground_tables ground-fits (view l) (fine-sound l f) entry

pub abort-list : (l : Link) (n : ℕ) → Fine l → (aborted l n).said.acts ≡ acts (stops_of timers l.left ++ (4 ∷ 6 ∷ []))
unfolding aborted
abort-list l n f = abort-said ground_tables ground-fits (view l) (fine-sound l f)

pub cancel-list : (l : Link) → Fine l → (cancelled l).said.acts ≡ acts (stops_of timers l.left ++ (END-REQUEST ∷ (START + LI1) ∷ []))
unfolding cancelled pushed_all acts_of
cancel-list l f =
    stopped-said ground_tables ground-fits (view l) (fine-sound l f) LI-ACTIVE (record { move = li_end; send = END-REQUEST; most = loads (cleared l) } ∷ []) [] (lit≤ tt)
