-- No end of a flight aborts for reason 2. Assumes nothing.
use mathlib.Core.Path.{◌≡◌, refl, ap}
use mathlib.Core.Bool.{Bool, true, false, not}
use mathlib.Core.List.{List, [], ◌∷◌, ◌++◌}
use Prim.Native.Nat.{ℕ, zero, suc, ◌+◌, ◌≤◌}
use native.Mathlib.Nat.{le_refl}
use native.Mathlib.Omega.{arith}
use borrow.Author.Tests.{leb-true}
use lib.Dec.{eqb, ltb, leb}
use lib.ListN.{length, take, drop, length-drop}
use Rattle.text.specs.Text.{pick, word_end}
use Rattle.text.specs.Words.{found_from}
use Rattle.std.specs.Prelude.{Option, Some, None}
use Rattle.pdu_parts.specs.Lists.{no_list}
use Rattle.ground.specs.declared.call.Call as ground_call
use Rattle.air.specs.declared.call.Call as air_call
use Rattle.bench_line.specs.Lines as ground_lines
use Rattle.air_line.specs.Lines.{Asked, parsed_line}
use Rattle.link.proofs.Laws.{pick-case}
use Rattle.script.specs.Fields.{number_after}
use Rattle.script.specs.Lines.{Parsed, unread, makes}
use Rattle.script.specs.Replies.{Reply}
use Rattle.script.specs.Trace.{bumped}
use Rattle.channel.specs.declared.Letter.{Letter}
use Rattle.channel.specs.Channel.{oldest_of, octets_in}
use Rattle.world.specs.World.{World}
use Rattle.world.specs.GroundTurns as to_ground
use Rattle.world.specs.AirTurns as to_air
use Rattle.delivery.specs.Hearing.{Carried, came, came_to, ground_said, air_said, ground_carried, air_carried, comes}
use Rattle.delivery.specs.Deliveries.{without, carried_with, carried_one, carried}
use Rattle.flight_line.specs.Users.{is_user, refused}
use Rattle.flight_line.specs.GroundUsers as is_of_ground
use Rattle.flight_line.specs.AirUsers as is_of_air
use Rattle.flight_line.specs.Boths.{both_with, both_hear, unless_refused, elapse_reply, cut_reply}
use Rattle.flight_line.specs.Lines.{ended, refused_line, both_ready, rest_of, count_of, count_in, flight_words, ground_line, air_line, elapse_line, carry_count, carry_line, then_lost, cut_line, other_line, flight_as, flight_line, world_on}
use Rattle.flight_promises.specs.Fitting.{letter_fits, all_fit}
use Rattle.flight_promises.specs.Told.{ground_asks, air_asks, ground_uses, air_uses, both_told, elapse_told, number_told, cut_told, letter_told, carried_told, count_told, deliver_told, told_as, line_told, told_on}
use Rattle.flight_promises.specs.Shown.{reasons, Fair, none_invalid, NeverInvalid}
use Rattle.flight_promises.proofs.Goings.{both-on}
use Rattle.flight_promises.proofs.Letters.{both_first, both-second}
use Rattle.flight_promises.proofs.Hears.{ground-hears, air-hears, ground_well, air_well, ground-user, air-user}
use Rattle.flight_promises.proofs.GroundSends as ground
use Rattle.flight_promises.proofs.AirSends as air
use Rattle.flight_promises.proofs.Turns.{ground-fair, air-fair, ground-grows, air-grows}

-- one of two, by a test
fair-by : {X : Type 0} (to : X → World) (b : Bool) {x y : X} {r q : List ℕ} → (b ≡ true → Fair (to x) r) → (b ≡ false → Fair (to y) q)
    → Fair (to (pick b x y)) (pick b r q)
fair-by to true f g = f refl
fair-by to false f g = g refl

quiet : (w : World) → all_fit w.under ≡ true → Fair w []
quiet w h = record { fits = h; valid = refl }

valid-more : (r q : List ℕ) → none_invalid r ≡ true → none_invalid q ≡ true → none_invalid (r ++ q) ≡ true
valid-more [] q a b = b
valid-more (x ∷ r) q a b = both-on (not (eqb x 2)) (none_invalid r) (none_invalid (r ++ q)) (λ e. valid-more r q e b) a

fair-then : {w v : World} {r q : List ℕ} → Fair w r → Fair v q → Fair v (r ++ q)
fair-then {r = r} {q = q} a b = record { fits = b.fits; valid = valid-more r q a.valid b.valid }

-- a letter that comes
air-letter : (w : World) (l : Letter) → l.up ≡ true → letter_fits l ≡ true → all_fit w.under ≡ true
    → Fair (to_air.turned w l.number (to_air.call_for l.kind) no_list (came l)).world ((to_air.turned w l.number (to_air.call_for l.kind) no_list (came l)).said.reason ∷ [])
unfolding letter_fits came
air-letter w l u f h = air-fair w l.number (to_air.call_for l.kind) no_list (came l) (rw u (air-hears l.kind (octets_in l) (rw u at f))) h

ground-letter : (w : World) (l : Letter) → l.up ≡ false → letter_fits l ≡ true → all_fit w.under ≡ true
    → Fair (to_ground.turned w (to_ground.call_for l.kind) (came l)).world ((to_ground.turned w (to_ground.call_for l.kind) (came l)).said.reason ∷ [])
unfolding letter_fits came
ground-letter w l u f h = ground-fair w (to_ground.call_for l.kind) (came l) (rw u (ground-hears l.kind (octets_in l) (rw u at f))) h

comes-fair : (hear : Bool) (w : World) (l : Letter) → letter_fits l ≡ true → all_fit w.under ≡ true → Fair (comes hear w l).world (pick hear (letter_told reasons w l) [])
unfolding comes letter_told air_carried ground_carried air_said ground_said came_to
comes-fair hear w l f h =
    let to : Carried → World = λ c. c.world in
    fair-by to hear
    (λ e. fair-by to l.up
    (λ u. fair-by to (to_air.hears w l) (λ t. air-letter w l u f h) (λ t. quiet w h))
    (λ u. fair-by to (to_ground.hears w l) (λ t. ground-letter w l u f h) (λ t. quiet w h)))
    (λ e. quiet w h)

comes-grows : (hear : Bool) (w : World) (l : Letter) → length w.under ≤ length (comes hear w l).world.under
unfolding comes air_carried ground_carried air_said ground_said came_to
comes-grows hear w l =
    let Q : Carried → Type 0 = λ c. length w.under ≤ length c.world.under in
    pick-case Q hear
    (λ e. pick-case Q l.up
    (λ u. pick-case Q (to_air.hears w l) (λ t. air-grows w l.number (to_air.call_for l.kind) no_list (came l)) (λ t. le_refl _))
    (λ u. pick-case Q (to_ground.hears w l) (λ t. ground-grows w (to_ground.call_for l.kind) (came l)) (λ t. le_refl _)))
    (λ e. le_refl _)

oldest-fits : (ls : List Letter) → 1 ≤ length ls → all_fit ls ≡ true → letter_fits (oldest_of ls) ≡ true
unfolding oldest_of
oldest-fits [] n h = absurd (omega (arith, n))
oldest-fits (l ∷ ls) n h = both_first (letter_fits l) (all_fit ls) h

others-fit : (ls : List Letter) → all_fit ls ≡ true → all_fit (drop 1 ls) ≡ true
others-fit [] h = refl
others-fit (l ∷ ls) h = both-second (letter_fits l) (all_fit ls) h

-- the oldest letters, one after the other
module _ (hear : Bool) (number : ℕ) (w : World) (some : 1 ≤ length w.under) (h : all_fit w.under ≡ true) where
  abbrev x : Carried
  x = comes hear (without w) (oldest_of w.under)

  x-fair : Fair x.world (pick hear (letter_told reasons (without w) (oldest_of w.under)) [])
  unfolding without
  x-fair = comes-fair hear (without w) (oldest_of w.under) (oldest-fits w.under some h) (others-fit w.under h)

  one-fair : (i : ℕ) → Fair (carried_one hear number i w).world (pick hear (letter_told reasons (without w) (oldest_of w.under)) [])
  unfolding carried_one carried_with
  one-fair i = record { fits = pick-case (λ (v : World). all_fit v.under ≡ true) x.stays (λ e. h) (λ e. x-fair.fits); valid = x-fair.valid }

  one_grows : (i k : ℕ) → suc k ≤ length w.under → k ≤ length (carried_one hear number i w).world.under
  unfolding carried_one carried_with without
  one_grows i k n =
      pick-case (λ (v : World). k ≤ length v.under) x.stays (λ e. omega (arith, n))
      (λ e. omega (arith, n, comes-grows hear (without w) (oldest_of w.under), length-drop 1 w.under))

abbrev box : Reply World → World
box r = r.box

delivered-fair : (k number i : ℕ) (w : World) → k ≤ length w.under → all_fit w.under ≡ true → Fair (carried true k number i w).box (carried_told reasons k number i w)
delivered-fair zero number i w n h = quiet w h
delivered-fair (suc k) number i w n h =
    let c = carried_one true number (i + 1) w in
    let some : 1 ≤ length w.under = omega (arith, n) in
    let f = one-fair true number w some h (i + 1) in
    fair-by box c.stays (λ e. quiet c.world f.fits)
    (λ e. fair-then f (delivered-fair k number (i + 1) c.world (one_grows true number w some h (i + 1) k n) f.fits))

lost-fair : (k number i : ℕ) (w : World) → k ≤ length w.under → all_fit w.under ≡ true → Fair (carried false k number i w).box []
lost-fair zero number i w n h = quiet w h
lost-fair (suc k) number i w n h =
    let c = carried_one false number (i + 1) w in
    let some : 1 ≤ length w.under = omega (arith, n) in
    let f = one-fair false number w some h (i + 1) in
    pick-case (λ (r : Reply World). Fair r.box []) c.stays (λ e. quiet c.world f.fits)
    (λ e. lost-fair k number (i + 1) c.world (one_grows false number w some h (i + 1) k n) f.fits)

-- users
ground-asked : (w : World) (p : Parsed ground_call.Call) → ground_well p ≡ true → all_fit w.under ≡ true → Fair (is_of_ground.ground_asked w p).box (ground_asks reasons w p)
unfolding is_of_ground.ground_asked is_of_ground.ground_said ground_asks refused
ground-asked w (makes c s) e h = ground-fair w c s e h
ground-asked w unread e h = quiet w h

air-asked : (w : World) (p : Parsed Asked) → air_well p ≡ true → all_fit w.under ≡ true → Fair (is_of_air.air_asked w p).box (air_asks reasons w p)
unfolding is_of_air.air_asked is_of_air.air_said air_asks refused
air-asked w (makes c s) e h = air-fair w w.taken c.call c.list s e h
air-asked w unread e h = quiet w h

ground-line : (w : World) (line : List ℕ) → all_fit w.under ≡ true → Fair (is_of_ground.ground_user w line).box (ground_uses reasons w line)
unfolding is_of_ground.ground_user is_of_ground.ground_set is_of_ground.ground_with ground_uses refused
ground-line w line h =
    fair-by box (is_user line)
    (λ u. fair-by box w.ground_end.ready (λ r. ground-asked w (ground_lines.parsed_line line) (ground-user line u) h) (λ r. record { fits = h; valid = refl }))
    (λ u. quiet w h)

air-line : (w : World) (line : List ℕ) → all_fit w.under ≡ true → Fair (is_of_air.air_user w line).box (air_uses reasons w line)
unfolding is_of_air.air_user is_of_air.air_set is_of_air.air_with air_uses refused
air-line w line h =
    fair-by box (is_user line)
    (λ u. fair-by box w.air.ready (λ r. air-asked w (parsed_line line) (air-user line u) h) (λ r. record { fits = h; valid = refl }))
    (λ u. quiet w h)

-- both ends
both-fair : (w : World) (g : ground_call.Call) (a : air_call.Call) → ground.heard_well g [] ≡ true → air.heard_well a [] ≡ true → all_fit w.under ≡ true
    → Fair (both_hear w g a).world (both_told reasons w g a)
unfolding both_hear both_with both_told
both-fair w g a e f h =
    let v = (to_ground.turned w g []).world in
    let x = ground-fair w g [] e h in
    fair-then x (air-fair v v.taken a no_list [] f x.fits)

elapse-both : (w : World) (n : ℕ) → all_fit w.under ≡ true
    → Fair (both_hear w (ground_call.TheVariants.Elapse n) (air_call.TheVariants.Elapse n)).world (both_told reasons w (ground_call.TheVariants.Elapse n) (air_call.TheVariants.Elapse n))
unfolding ground.heard_well air.heard_well
elapse-both w n h = both-fair w (ground_call.TheVariants.Elapse n) (air_call.TheVariants.Elapse n) refl refl h

down-both : (w : World) → all_fit w.under ≡ true
    → Fair (both_hear w ground_call.TheVariants.Down air_call.TheVariants.Down).world (both_told reasons w ground_call.TheVariants.Down air_call.TheVariants.Down)
unfolding ground.heard_well air.heard_well
down-both w h = both-fair w ground_call.TheVariants.Down air_call.TheVariants.Down refl refl h

elapse-fair : (w : World) (v : Option ℕ) → all_fit w.under ≡ true → Fair (elapse_line w v).box (number_told reasons w v)
unfolding elapse_line number_told elapse_reply unless_refused elapse_told ended refused_line refused
elapse-fair w (Some n) h =
    let b = both_hear w (ground_call.TheVariants.Elapse n) (air_call.TheVariants.Elapse n) in
    fair-by box (both_ready w)
    (λ r. fair-by box (eqb b.ground_end.refusal 0)
    (λ e. fair-by box (eqb b.air.refusal 0) (λ f. elapse-both w n h) (λ f. quiet w h)) (λ e. quiet w h))
    (λ r. quiet w h)
elapse-fair w None h = quiet w h

cut-fair : (w : World) (number : ℕ) (tail : List ℕ) → all_fit w.under ≡ true → Fair (cut_line w number tail).box (cut_told reasons w tail)
unfolding cut_line cut_told cut_reply then_lost ended refused_line refused
cut-fair w number tail h =
    let v = (both_hear w ground_call.TheVariants.Down air_call.TheVariants.Down).world in
    let f = down-both w h in
    fair-by box (eqb (length tail) 0)
    (λ e. fair-by box (both_ready w)
    (λ r. record { fits = (lost-fair (length v.under) number 0 v (le_refl _) f.fits).fits; valid = f.valid }) (λ r. quiet w h))
    (λ e. quiet w h)

-- letters that come or are thrown away
count-of : (have : ℕ) (n : Option ℕ) → count_of have n ≤ have
unfolding count_of
count-of have (Some n) = pick-case (λ (k : ℕ). k ≤ have) (leb n have) (λ e. leb-true n have e) (λ e. omega arith)
count-of have None = omega arith

count-in : (have : ℕ) (tail : List ℕ) → count_in have tail ≤ have
unfolding count_in
count-in have tail = pick-case (λ (k : ℕ). k ≤ have) (eqb (length tail) 0) (λ e. le_refl have) (λ e. count-of have (number_after tail))

deliver-fair : (w : World) (number : ℕ) (tail : List ℕ) → all_fit w.under ≡ true → Fair (carry_line w number tail true).box (deliver_told reasons w number tail)
unfolding carry_line carry_count deliver_told count_told refused_line ended refused
deliver-fair w number tail h =
    let k = count_in (length w.under) tail in
    fair-by box (both_ready w)
    (λ r. fair-by box (eqb k 0) (λ e. quiet w h) (λ e. delivered-fair k number 0 w (count-in (length w.under) tail) h))
    (λ r. quiet w h)

lose-fair : (w : World) (number : ℕ) (tail : List ℕ) → all_fit w.under ≡ true → Fair (carry_line w number tail false).box []
unfolding carry_line carry_count refused_line ended refused
lose-fair w number tail h =
    let Q : Reply World → Type 0 = λ r. Fair r.box [] in
    let k = count_in (length w.under) tail in
    pick-case Q (both_ready w) (λ r. pick-case Q (eqb k 0) (λ e. quiet w h) (λ e. lost-fair k number 0 w (count-in (length w.under) tail) h)) (λ r. quiet w h)

-- lines
as-fair : (w : World) (number : ℕ) (line : List ℕ) (k : ℕ) → all_fit w.under ≡ true → Fair (flight_as w number line k).box (told_as reasons w number line k)
unfolding flight_as other_line ground_line air_line told_as refused_line ended refused
as-fair w number line k h =
    let tail = drop (word_end line) line in
    fair-by box (eqb k 1) (λ e. ground-line w (rest_of line) h)
    (λ e. fair-by box (eqb k 2) (λ e. air-line w (rest_of line) h)
    (λ e. fair-by box (eqb k 3) (λ e. elapse-fair w (number_after tail) h)
    (λ e. fair-by box (eqb k 4) (λ e. deliver-fair w number tail h)
    (λ e. fair-by box (eqb k 5) (λ e. lose-fair w number tail h) (λ e. fair-by box (eqb k 6) (λ e. cut-fair w number tail h) (λ e. quiet w h))))))

line-fair : (w : World) (number : ℕ) (line : List ℕ) → all_fit w.under ≡ true → Fair (flight_line w number line).box (line_told reasons w number line)
unfolding flight_line line_told refused_line ended refused
line-fair w number line h =
    fair-by box (ltb 4096 (length line)) (λ e. quiet w h) (λ e. as-fair w number line (found_from 0 (take (word_end line) line) flight_words) h)

lines-fair : (n : ℕ) (w : World) (lines : List (List ℕ)) → all_fit w.under ≡ true → Fair (world_on n w lines) (told_on reasons n w lines)
lines-fair n w [] h = quiet w h
lines-fair n w (l ∷ ls) h =
    let f = line-fair w (bumped n) l h in
    fair-then f (lines-fair (bumped n) (flight_line w (bumped n) l).box ls f.fits)

pub never-invalid : NeverInvalid
never-invalid n w lines e = lines-fair n w lines (ap all_fit e)
