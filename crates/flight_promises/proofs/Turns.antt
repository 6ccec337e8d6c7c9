-- A call that fits leaves a world in which all fits, and shows no abort for 2. Assumes nothing.
use mathlib.Core.Path.{◌≡◌, refl}
use mathlib.Core.Bool.{Bool, true, false, not}
use mathlib.Core.List.{List, [], ◌∷◌}
use Prim.Native.Nat.{ℕ, ◌≤◌}
use native.Mathlib.Nat.{le_refl}
use lib.Dec.{eqb, ltb}
use lib.ListN.{length, take}
use lib.Seq.{take-length}
use Rattle.text.specs.Text.{pick, both}
use Rattle.pdu_parts.specs.declared.lists.Listed.{Listed}
use Rattle.ground.specs.declared.call.Call as ground_call
use Rattle.ground.specs.Runs as ground_runs
use Rattle.ground_answer.specs.declared.answer.Answer as ground_answer
use Rattle.air.specs.declared.call.Call as air_call
use Rattle.air.specs.Runs as air_runs
use Rattle.air_answer.specs.declared.answer.Answer as air_answer
use Rattle.sending.specs.Ways.{Way, way, kind_of}
use Rattle.world.specs.World.{World}
use Rattle.world.specs.GroundTurns as to_ground
use Rattle.world.specs.AirTurns as to_air
use Rattle.flight_promises.specs.Fitting.{fits_at, all_fit}
use Rattle.flight_promises.specs.Shown.{Fair}
use Rattle.flight_promises.proofs.Sendings.{all-grow}
use Rattle.flight_promises.proofs.Letters.{sent-fits}
use Rattle.flight_promises.proofs.GroundReads.{up_goes}
use Rattle.flight_promises.proofs.GroundSends as ground
use Rattle.flight_promises.proofs.AirReads.{down_goes}
use Rattle.flight_promises.proofs.AirSends as air

-- one reason
one-valid : (r : ℕ) → eqb r 2 ≡ false → both (not (eqb r 2)) true ≡ true
one-valid r h = rw h

-- the ground
up_is : (c : ℕ) (s : List ℕ) → up_goes c s ≡ fits_at true (kind_of c s) s
unfolding up_goes
up_is c s = refl

ground-sent : (a : ground_answer.Answer) (x : Way) → ground.CleanAnswer a → all_fit x.under ≡ true → all_fit (to_ground.sent_by a.said x).under ≡ true
unfolding to_ground.sent_by
ground-sent a x k h =
    let s = take a.said.sent.n a.said.sent.octets in
    sent-fits true up_goes up_is x (take a.said.acts.n a.said.acts.list) s (length s) (rw (take-length s) k.short) h (rw (take-length s) k.fits)

ground-by : (w : World) (a : ground_answer.Answer) (x : Way) (b : Bool) → ground.CleanAnswer a → all_fit w.under ≡ true → all_fit x.under ≡ true
    → Fair (pick b (to_ground.stays w) (to_ground.goes_on w a x)).world ((pick b (to_ground.stays w) (to_ground.goes_on w a x)).said.reason ∷ [])
unfolding to_ground.stays to_ground.goes_on
ground-by w a x true k h g = record { fits = h; valid = refl }
ground-by w a x false k h g = record { fits = g; valid = one-valid a.said.reason k.no-two }

pub ground-fair : (w : World) (c : ground_call.Call) (s : List ℕ) → ground.heard_well c s ≡ true → all_fit w.under ≡ true
    → Fair (to_ground.turned w c s).world ((to_ground.turned w c s).said.reason ∷ [])
unfolding to_ground.turned to_ground.turn_with
ground-fair w c s e h =
    let a = ground_runs.answered w.ground_end.link c s in
    let k = ground.ground-clean w.ground_end.link c s e in
    let x = to_ground.sent_by a.said (way w.under w.last) in
    ground-by w a x (ltb 16 (length x.under)) k h (ground-sent a (way w.under w.last) k h)

-- the aircraft
down_is : (c : ℕ) (s : List ℕ) → down_goes c s ≡ fits_at false (kind_of c s) s
unfolding down_goes
down_is c s = refl

air-sent : (a : air_answer.Answer) (x : Way) → air.CleanAnswer a → all_fit x.under ≡ true → all_fit (to_air.sent_by a.said x).under ≡ true
unfolding to_air.sent_by
air-sent a x k h =
    let s = take a.said.sent.n a.said.sent.octets in
    sent-fits false down_goes down_is x (take a.said.acts.n a.said.acts.list) s (length s) (rw (take-length s) k.short) h (rw (take-length s) k.fits)

air-by : (w : World) (n : ℕ) (a : air_answer.Answer) (x : Way) (b : Bool) → air.CleanAnswer a → all_fit w.under ≡ true → all_fit x.under ≡ true
    → Fair (pick b (to_air.stays w) (to_air.goes_on w n a x)).world ((pick b (to_air.stays w) (to_air.goes_on w n a x)).said.reason ∷ [])
unfolding to_air.stays to_air.goes_on
air-by w n a x true k h g = record { fits = h; valid = refl }
air-by w n a x false k h g = record { fits = g; valid = one-valid a.said.reason k.no-two }

pub air-fair : (w : World) (n : ℕ) (c : air_call.Call) (list : Listed) (s : List ℕ) → air.heard_well c s ≡ true → all_fit w.under ≡ true
    → Fair (to_air.turned w n c list s).world ((to_air.turned w n c list s).said.reason ∷ [])
unfolding to_air.turned to_air.turn_with
air-fair w n c list s e h =
    let a = air_runs.answered w.air.link c list s in
    let k = air.air-clean w.air.link c list s e in
    let x = to_air.sent_by a.said (way w.under n) in
    air-by w n a x (ltb 16 (length x.under)) k h (air-sent a (way w.under n) k h)

-- what was under way still is
ground-more : (w : World) (a : ground_answer.Answer) (x : Way) (b : Bool) → length w.under ≤ length x.under
    → length w.under ≤ length (pick b (to_ground.stays w) (to_ground.goes_on w a x)).world.under
unfolding to_ground.stays to_ground.goes_on
ground-more w a x true h = le_refl (length w.under)
ground-more w a x false h = h

pub ground-grows : (w : World) (c : ground_call.Call) (s : List ℕ) → length w.under ≤ length (to_ground.turned w c s).world.under
unfolding to_ground.turned to_ground.turn_with to_ground.sent_by
ground-grows w c s =
    let a = ground_runs.answered w.ground_end.link c s in
    let o = take a.said.sent.n a.said.sent.octets in
    let x = to_ground.sent_by a.said (way w.under w.last) in
    ground-more w a x (ltb 16 (length x.under))
    (all-grow true (way w.under w.last) (take a.said.acts.n a.said.acts.list) o (length o))

air-more : (w : World) (n : ℕ) (a : air_answer.Answer) (x : Way) (b : Bool) → length w.under ≤ length x.under
    → length w.under ≤ length (pick b (to_air.stays w) (to_air.goes_on w n a x)).world.under
unfolding to_air.stays to_air.goes_on
air-more w n a x true h = le_refl (length w.under)
air-more w n a x false h = h

pub air-grows : (w : World) (n : ℕ) (c : air_call.Call) (list : Listed) (s : List ℕ) → length w.under ≤ length (to_air.turned w n c list s).world.under
unfolding to_air.turned to_air.turn_with to_air.sent_by
air-grows w n c list s =
    let a = air_runs.answered w.air.link c list s in
    let o = take a.said.sent.n a.said.sent.octets in
    let x = to_air.sent_by a.said (way w.under n) in
    air-more w n a x (ltb 16 (length x.under))
    (all-grow false (way w.under n) (take a.said.acts.n a.said.acts.list) o (length o))
