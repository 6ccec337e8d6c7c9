-- What a line keeps, and a flight. Assumes nothing.
use mathlib.Core.Path.{◌≡◌}
use mathlib.Core.Bool.{Bool, true, false}
use mathlib.Core.List.{List, [], ◌∷◌}
use Prim.Native.Nat.{ℕ, zero, suc, ◌+◌}
use native.Mathlib.Omega.{arith}
use lib.Dec.{eqb, ltb}
use lib.ListN.{length, take, drop}
use Rattle.refusals.specs.Refusals.{SCRIPT-LINE}
use Rattle.text.specs.Letters.{ascii}
use Rattle.text.specs.Text.{pick, word_end}
use Rattle.text.specs.Words.{found_from}
use Rattle.std.specs.Prelude.{Option, Some, None}
use Rattle.ground.specs.Runs as ground_runs
use Rattle.ground.specs.declared.call.Call as ground
use Rattle.air.specs.Runs as air_runs
use Rattle.air.specs.declared.call.Call as air
use Rattle.pdu_parts.specs.Lists.{no_list}
use Rattle.bench_line.specs.Lines as ground_lines
use Rattle.air_line.specs.Lines.{Asked, parsed_line}
use Rattle.script.specs.Fields.{number_after}
use Rattle.script.specs.Lines.{Parsed, unread, makes}
use Rattle.script.specs.Replies.{Reply}
use Rattle.script.specs.Trace.{bumped}
use Rattle.channel.specs.declared.Letter.{Letter}
use Rattle.channel.specs.Channel.{oldest_of}
use Rattle.world.specs.World.{World}
use Rattle.world.specs.GroundTurns as to_ground
use Rattle.world.specs.AirTurns as to_air
use Rattle.delivery.specs.Hearing.{Carried, came, came_to, ground_said, air_said, ground_carried, air_carried, comes}
use Rattle.delivery.specs.Deliveries.{onto, without, carried_with, carried_one, carried}
use Rattle.flight_line.specs.Users.{is_user, refused}
use Rattle.flight_line.specs.GroundUsers as ground_users
use Rattle.flight_line.specs.AirUsers as air_users
use Rattle.flight_line.specs.Boths.{both_reply, both_with, both_hear, unless_refused, elapse_reply, cut_reply}
use Rattle.flight_line.specs.Lines.{ended, refused_line, both_ready, rest_of, count_in, flight_words, ground_line, air_line, elapse_line, carry_count, carry_line, then_lost, cut_line, other_line, flight_as, flight_line}
use Rattle.flight_promises.specs.Told.{ground_asks, air_asks, ground_uses, air_uses, both_told, elapse_told, number_told, cut_told, letter_told, carried_told, count_told, deliver_told, told_as, line_told}
use Rattle.flight_promises.specs.Flights.{is_of_ground, is_of_air, ground_made, air_made, Kept, Flights}
use Rattle.flight_promises.proofs.Keeping.{still, kept-all, kept_then, kept_on, Leads, either, both_ways, kept-without}
use Rattle.flight_promises.proofs.OfGround.{kept-ground}
use Rattle.flight_promises.proofs.OfAir.{kept-air}

abbrev Brings : World → Carried → List ground_runs.Made → List air_runs.Made → Type 0
Brings = Leads (λ (c : Carried). c.world)

abbrev Keeps : World → Reply World → List ground_runs.Made → List air_runs.Made → Type 0
Keeps = Leads (λ (r : Reply World). r.box)

-- letters
nobody : (w : World) (t : List ℕ) → Brings w (came_to w t) [] []
unfolding came_to
nobody w t = record { kept = kept-all w }

ground-says : (w : World) (l : Letter)
    → Brings w (ground_said (to_ground.turned w (to_ground.call_for l.kind) (came l)) (came l)) (ground_made w (to_ground.call_for l.kind) (came l)) []
unfolding ground_said
ground-says w l = record { kept = kept-ground w (to_ground.call_for l.kind) (came l) }

air-says : (w : World) (l : Letter)
    → Brings w (air_said (to_air.turned w l.number (to_air.call_for l.kind) no_list (came l)) (came l)) [] (air_made w l.number (to_air.call_for l.kind) no_list (came l))
unfolding air_said
air-says w l = record { kept = kept-air w l.number (to_air.call_for l.kind) no_list (came l) }

letter-comes : (w : World) (l : Letter) → Brings w (comes true w l) (letter_told is_of_ground w l) (letter_told is_of_air w l)
unfolding comes ground_carried air_carried letter_told
letter-comes w l =
    either l.up (λ u. either (to_air.hears w l) (λ h. air-says w l) (λ h. nobody w (ascii "over")))
    (λ u. either (to_ground.hears w l) (λ h. ground-says w l) (λ h. nobody w (ascii "over")))

letter-lost : (w : World) (l : Letter) → Brings w (comes false w l) [] []
unfolding comes
letter-lost w l = nobody w (ascii "lost")

-- one that stays under way has not come
letter-stays : (number i : ℕ) (w : World) → (carried_one true number i w).stays ≡ true → Kept w (carried_one true number i w).world [] []
unfolding carried_one carried_with
letter-stays number i w e = rw e (kept-all w)

letter-goes : (number i : ℕ) (w : World) → (carried_one true number i w).stays ≡ false
    → Kept w (carried_one true number i w).world (letter_told is_of_ground (without w) (oldest_of w.under)) (letter_told is_of_air (without w) (oldest_of w.under))
unfolding carried_one carried_with
letter-goes number i w e = rw e (kept_then (kept-without w) (letter-comes (without w) (oldest_of w.under)).kept)

stays-or-goes : (w v : World) (b : Bool) → Kept w v [] [] → Kept w (pick b w v) [] []
stays-or-goes w v true k = kept-all w
stays-or-goes w v false k = k

one-lost : (number i : ℕ) (w : World) → Kept w (carried_one false number i w).world [] []
unfolding carried_one carried_with
one-lost number i w =
    let x = comes false (without w) (oldest_of w.under) in
    stays-or-goes w x.world x.stays (kept_on (kept-without w) (letter-lost (without w) (oldest_of w.under)).kept)

all_come : (k number i : ℕ) (w : World) → Keeps w (carried true k number i w) (carried_told is_of_ground k number i w) (carried_told is_of_air k number i w)
all_come zero number i w = record { kept = kept-all w }
all_come (suc k) number i w =
    let c = carried_one true number (i + 1) w in
    record {
      kept =
          (either {to = λ (r : Reply World). r.box} c.stays (λ e. record { kept = letter-stays number (i + 1) w e })
          (λ e. record { kept = kept_then (letter-goes number (i + 1) w e) (all_come k number (i + 1) c.world).kept })).kept;
    }

all-lost : (k number i : ℕ) (w : World) → Keeps w (carried false k number i w) [] []
all-lost zero number i w = record { kept = kept-all w }
all-lost (suc k) number i w =
    let c = carried_one false number (i + 1) w in
    let o = one-lost number (i + 1) w in
    record {
      kept =
          (both_ways {to = λ (r : Reply World). r.box} c.stays (record { kept = o })
          (record { kept = kept_on o (all-lost k number (i + 1) c.world).kept })).kept;
    }

-- users
never : {X : Type 0} (b : Bool) → b ≡ false → b ≡ true → X
never b e f = let y : ◌≡◌ {A = ℕ} 0 1 = cc in absurd (omega arith)

nothing : (w : World) (n : ℕ) → Keeps w (refused w n) [] []
unfolding refused
nothing w n = record { kept = kept-all w }

ground-asked : (w : World) (p : Parsed ground.Call) → Keeps w (ground_users.ground_asked w p) (ground_asks is_of_ground w p) (ground_asks is_of_air w p)
unfolding ground_users.ground_asked ground_users.ground_said ground_asks
ground-asked w (makes c s) = record { kept = kept-ground w c s }
ground-asked w unread = nothing w SCRIPT-LINE

air-asked : (w : World) (p : Parsed Asked) → Keeps w (air_users.air_asked w p) (air_asks is_of_ground w p) (air_asks is_of_air w p)
unfolding air_users.air_asked air_users.air_said air_asks
air-asked w (makes c s) = record { kept = kept-air w w.taken c.call c.list s }
air-asked w unread = nothing w SCRIPT-LINE

ground-set : (w : World) (line : List ℕ) → w.ground_end.ready ≡ false → Keeps w (ground_users.ground_set w line) [] []
unfolding ground_users.ground_set ground_users.ground_with
ground-set w line new = record { kept = record { of_ground = λ r. never _ new r; of_air = λ r. (r, still air_runs.air_side _); no_more = λ h. h } }

air-set : (w : World) (line : List ℕ) → w.air.ready ≡ false → Keeps w (air_users.air_set w line) [] []
unfolding air_users.air_set air_users.air_with
air-set w line new = record { kept = record { of_ground = λ r. (r, still ground_runs.ground _); of_air = λ r. never _ new r; no_more = λ h. h } }

ground-user : (w : World) (line : List ℕ) → Keeps w (ground_users.ground_user w line) (ground_uses is_of_ground w line) (ground_uses is_of_air w line)
unfolding ground_users.ground_user ground_uses
ground-user w line =
    either (is_user line) (λ u. either w.ground_end.ready (λ r. ground-asked w (ground_lines.parsed_line line)) (λ r. ground-set w line r)) (λ u. nothing w SCRIPT-LINE)

air-user : (w : World) (line : List ℕ) → Keeps w (air_users.air_user w line) (air_uses is_of_ground w line) (air_uses is_of_air w line)
unfolding air_users.air_user air_uses
air-user w line =
    either (is_user line) (λ u. either w.air.ready (λ r. air-asked w (parsed_line line)) (λ r. air-set w line r)) (λ u. nothing w SCRIPT-LINE)

-- both ends
both-kept : (w : World) (g : ground.Call) (a : air.Call) → Keeps w (both_reply (both_hear w g a)) (both_told is_of_ground w g a) (both_told is_of_air w g a)
unfolding both_hear both_with both_told
both-kept w g a =
    let v = (to_ground.turned w g []).world in
    record { kept = kept_then (kept-ground w g []) (kept-air v v.taken a no_list []) }

kept-elapse : (w : World) (n : ℕ) → Keeps w (elapse_reply w n) (elapse_told is_of_ground w n) (elapse_told is_of_air w n)
unfolding elapse_reply unless_refused elapse_told
kept-elapse w n =
    let g = ground.TheVariants.Elapse n in
    let a = air.TheVariants.Elapse n in
    let b = both_hear w g a in
    either (eqb b.ground_end.refusal 0)
    (λ e. either (eqb b.air.refusal 0) (λ f. both-kept w g a) (λ f. nothing w b.air.refusal))
    (λ e. nothing w b.ground_end.refusal)

-- lines
module _ (w : World) {gs : List ground_runs.Made} {cs : List air_runs.Made} where
  kept-ended : (r : Reply World) → Keeps w r gs cs → Keeps w (ended r) gs cs
  unfolding ended
  kept-ended r k = record { kept = k.kept }

  kept-onto : (t : List ℕ) (r : Reply World) → Keeps w r gs cs → Keeps w (onto t r) gs cs
  kept-onto t r k = record { kept = k.kept }

  then-lost : (number : ℕ) (r : Reply World) → Keeps w r gs cs → Keeps w (then_lost number r) gs cs
  unfolding then_lost
  then-lost number r k = record { kept = kept_on k.kept (all-lost (length r.box.under) number 0 r.box).kept }

kept-refused : (w : World) → Keeps w (refused_line w) [] []
unfolding refused_line
kept-refused w = kept-ended w (refused w SCRIPT-LINE) (nothing w SCRIPT-LINE)

elapse-kept : (w : World) (v : Option ℕ) → Keeps w (elapse_line w v) (number_told is_of_ground w v) (number_told is_of_air w v)
unfolding elapse_line number_told
elapse-kept w (Some n) = either (both_ready w) (λ r. kept-ended w (elapse_reply w n) (kept-elapse w n)) (λ r. kept-refused w)
elapse-kept w None = kept-refused w

deliver-kept : (w : World) (number : ℕ) (tail : List ℕ) → Keeps w (carry_line w number tail true) (deliver_told is_of_ground w number tail) (deliver_told is_of_air w number tail)
unfolding carry_line carry_count deliver_told count_told
deliver-kept w number tail =
    let k = count_in (length w.under) tail in
    either (both_ready w)
    (λ r. either (eqb k 0) (λ e. kept-refused w) (λ e. kept-onto w (ascii "ok\n") (carried true k number 0 w) (all_come k number 0 w)))
    (λ r. kept-refused w)

lose-kept : (w : World) (number : ℕ) (tail : List ℕ) → Keeps w (carry_line w number tail false) [] []
unfolding carry_line carry_count
lose-kept w number tail =
    let k = count_in (length w.under) tail in
    both_ways (both_ready w) (both_ways (eqb k 0) (kept-refused w) (kept-onto w (ascii "ok\n") (carried false k number 0 w) (all-lost k number 0 w))) (kept-refused w)

cut-kept : (w : World) (number : ℕ) (tail : List ℕ) → Keeps w (cut_line w number tail) (cut_told is_of_ground w tail) (cut_told is_of_air w tail)
unfolding cut_line cut_reply cut_told
cut-kept w number tail =
    let b = both_reply (both_hear w ground.TheVariants.Down air.TheVariants.Down) in
    either (eqb (length tail) 0)
    (λ e. either (both_ready w)
    (λ r. then-lost w number (ended b) (kept-ended w b (both-kept w ground.TheVariants.Down air.TheVariants.Down))) (λ r. kept-refused w))
    (λ e. kept-refused w)

ground-kept : (w : World) (line : List ℕ) → Keeps w (ground_line w line) (ground_uses is_of_ground w (rest_of line)) (ground_uses is_of_air w (rest_of line))
unfolding ground_line
ground-kept w line =
    let r = ground_users.ground_user w (rest_of line) in
    kept-ended w (onto (ascii "ground ") r) (kept-onto w (ascii "ground ") r (ground-user w (rest_of line)))

air-kept : (w : World) (line : List ℕ) → Keeps w (air_line w line) (air_uses is_of_ground w (rest_of line)) (air_uses is_of_air w (rest_of line))
unfolding air_line
air-kept w line =
    let r = air_users.air_user w (rest_of line) in
    kept-ended w (onto (ascii "air ") r) (kept-onto w (ascii "air ") r (air-user w (rest_of line)))

as-kept : (w : World) (number : ℕ) (line : List ℕ) (k : ℕ) → Keeps w (flight_as w number line k) (told_as is_of_ground w number line k) (told_as is_of_air w number line k)
unfolding flight_as other_line told_as
as-kept w number line k =
    let tail = drop (word_end line) line in
    either (eqb k 1) (λ e. ground-kept w line)
    (λ e. either (eqb k 2) (λ e. air-kept w line)
    (λ e. either (eqb k 3) (λ e. elapse-kept w (number_after tail))
    (λ e. either (eqb k 4) (λ e. deliver-kept w number tail)
    (λ e. either (eqb k 5) (λ e. lose-kept w number tail) (λ e. either (eqb k 6) (λ e. cut-kept w number tail) (λ e. kept-refused w))))))

line_kept : (w : World) (number : ℕ) (line : List ℕ) → Keeps w (flight_line w number line) (line_told is_of_ground w number line) (line_told is_of_air w number line)
unfolding flight_line line_told
line_kept w number line =
    either (ltb 4096 (length line)) (λ e. kept-refused w) (λ e. as-kept w number line (found_from 0 (take (word_end line) line) flight_words))

pub flights : Flights
flights n w [] = kept-all w
flights n w (l ∷ ls) = kept_then (line_kept w (bumped n) l).kept (flights (bumped n) (flight_line w (bumped n) l).box ls)
