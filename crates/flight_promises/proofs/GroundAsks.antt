-- What the ground's tables let go is what may come in the aircraft. Assumes nothing.
use mathlib.Core.Path.{◌≡◌, refl, sym, ◌∙◌}
use mathlib.Core.Bool.{Bool, true, false}
use Prim.Native.Nat.{ℕ}
use native.Mathlib.Omega.{arith}
use lib.Dec.{T, eqb}
use lib.ListN.{get_or, set}
use lib.Seq.{get_or-set_other}
use borrow.Author.Tests.{eqb-true}
use Rattle.text.specs.Text.{pick, both}
use Rattle.pdu.specs.declared.uplink.Ground.{Ground}
use Rattle.pdu.specs.declared.uplink.Ground.TheVariants.{CancelAll, CancelContract, CancelEmergencyAck, DemandContract, EventContract, ModifyEmergency, PeriodicContract, Abort}
use Rattle.link.specs.Tests.{either, below}
use Rattle.link.specs.Names.{timers}
use Rattle.link.specs.Watch.{setting_ok, timer_good, state_ok, idle, li_is}
use Rattle.link.specs.Moves.{does_go}
use Rattle.link.proofs.Laws.{both_left, both_right, T-eq}
use Rattle.sides.specs.Tables.{move_of, states_ok}
use Rattle.sides.specs.Runs.{timers_ok}
use Rattle.ground_tables.specs.Moves.{contract_rows, em_rows, ground_rows}
use Rattle.ground_tables.specs.Tables.{ground_tables, tops, li_ok}
use Rattle.ground_tables.specs.Watch.{ground_watch}
use Rattle.ground_tables.specs.Intervals.{intervals_ok}
use Rattle.ground_answer.specs.Record.{loads, view, good, move_at}
use Rattle.ground_answer.specs.declared.record.Link.{Link}
use Rattle.ground_answer.specs.Events.{cancel_event, request_event}
use Rattle.air_answer.specs.Events.{uplink_event, may_come}
use Rattle.air_answer.specs.Events as air

-- a request in the dialogue: what the tables let go is what may come in data
cancel-may : (l : Link) (a b : Bool) → does_go (move_at l 2 (pick a 17 (pick b 33 64))) ≡ true → may_come 2 (pick a 21 (pick b 37 68)) ≡ true
unfolding move_at move_of ground_tables ground_rows may_come
cancel-may l true b h = refl
cancel-may l false true h = refl
cancel-may l false false h = h

pub data-may : (l : Link) (g : Ground) → does_go (move_at l 2 (request_event g)) ≡ true → may_come 2 (uplink_event g) ≡ true
unfolding request_event cancel_event uplink_event air.cancel_event may_come move_at move_of ground_tables ground_rows
data-may l CancelAll h = h
data-may l (CancelContract n) h = cancel-may l (eqb n 0) (eqb n 1) h
data-may l CancelEmergencyAck h = refl
data-may l (DemandContract v) h = refl
data-may l (EventContract v) h = refl
data-may l (ModifyEmergency i) h = refl
data-may l (PeriodicContract a) h = refl
data-may l (Abort n) h = h

-- a request in IDLE: all modules are IDLE, so that only a contract goes
idle-by : (b x i : Bool) → T b → T (pick (either b x) i true) → T i
idle-by true x i t u = u
idle-by false x i t u = absurd t

all-idle : (l : Link) → T (good l) → T (li_is l.at 0) → T (idle l.at)
unfolding good timers_ok states_ok ground_tables li_ok
all-idle l g t =
    let a = below timers (setting_ok l.setting) in
    let i = intervals_ok (get_or l.at 2 0) l.interval in
    let w = timers_ok ground_tables (view l) in
    let s = below 5 (state_ok tops l.at) in
    let k = li_ok l.at in
    let q = below timers (timer_good ground_watch l.at l.left (loads l)) in
    idle-by (li_is l.at 0) (li_is l.at 3) (idle l.at) t (both_right s k (both_left (both s k) q (both_right i w (both_right a (both i w) g))))

module _ (l : Link) (ok : T (good l)) (t : T (li_is l.at 0)) where
  module-idle : (k : ℕ) → (k ≡ 4 → ⊥) → get_or l.at k 0 ≡ 0 → get_or (set l.at 4 1) k 0 ≡ 0
  module-idle k h e = get_or-set_other l.at 4 k 1 0 h ∙ e

  ec-idle : get_or (set l.at 4 1) 1 0 ≡ 0
  unfolding idle
  ec-idle = module-idle 1 (λ e. absurd (omega (arith, e))) (eqb-true _ 0 (T-eq _ (both_left (eqb (get_or l.at 1 0) 0) _ (both_right (eqb (get_or l.at 0 0) 0) _ (all-idle l ok t)))))

  pc-idle : get_or (set l.at 4 1) 2 0 ≡ 0
  unfolding idle
  pc-idle =
      module-idle 2 (λ e. absurd (omega (arith, e)))
      (eqb-true _ 0 (T-eq _ (both_left (eqb (get_or l.at 2 0) 0) _ (both_right (eqb (get_or l.at 1 0) 0) _ (both_right (eqb (get_or l.at 0 0) 0) _ (all-idle l ok t))))))

  em-idle : get_or (set l.at 4 1) 3 0 ≡ 0
  unfolding idle
  em-idle =
      module-idle 3 (λ e. absurd (omega (arith, e)))
      (eqb-true _ 0 (T-eq _ (both_right (eqb (get_or l.at 2 0) 0) _ (both_right (eqb (get_or l.at 1 0) 0) _ (both_right (eqb (get_or l.at 0 0) 0) _ (all-idle l ok t))))))

  no-cancel : (a b : Bool) → does_go (move_at l 1 (pick a 17 (pick b 33 64))) ≡ false
  unfolding move_at move_of ground_tables ground_rows contract_rows
  no-cancel true b = rw ec-idle
  no-cancel false true = rw pc-idle
  no-cancel false false = refl

  no-modify : does_go (move_at l 1 48) ≡ false
  unfolding move_at move_of ground_tables ground_rows em_rows
  no-modify = rw em-idle

  cancel-not : (a b : Bool) → may_come 1 (pick a 21 (pick b 37 68)) ≡ false
  unfolding may_come
  cancel-not true b = refl
  cancel-not false true = refl
  cancel-not false false = refl

  pub start-may : (g : Ground) → does_go (move_at l 1 (request_event g)) ≡ true → may_come 1 (uplink_event g) ≡ true
  unfolding request_event cancel_event uplink_event air.cancel_event may_come move_at move_of ground_tables ground_rows
  start-may CancelAll h = h
  start-may (CancelContract n) h = cancel-not (eqb n 0) (eqb n 1) ∙ sym (no-cancel (eqb n 0) (eqb n 1)) ∙ h
  start-may CancelEmergencyAck h = h
  start-may (DemandContract v) h = refl
  start-may (EventContract v) h = refl
  start-may (ModifyEmergency i) h = sym no-modify ∙ h
  start-may (PeriodicContract a) h = refl
  start-may (Abort n) h = h
