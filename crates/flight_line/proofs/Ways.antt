-- The ways out of a line of a flight, as laws on its answer. Assumes nothing.
use mathlib.Core.Path.{◌≡◌, ap, ◌∙◌}
use mathlib.Core.Bool.{Bool, true, false}
use mathlib.Core.List.{List}
use Prim.Native.Nat.{ℕ, ◌≤◌, ◌<◌}
use borrow.Author.Tests.{ne_eqb, eq-eqb, lt-ltb, le-ltb}
use lib.Dec.{eqb}
use lib.ListN.{length, take}
use Rattle.text.specs.Text.{pick, word_end}
use Rattle.text.specs.Words.{found_from}
use Rattle.std.specs.Prelude.{Some}
use Rattle.world.specs.World.{World}
use Rattle.delivery.specs.Deliveries.{onto, carried}
use Rattle.flight_line.specs.Users.{is_user, refused}
use Rattle.flight_line.specs.GroundUsers.{ground_asked, ground_set, ground_user}
use Rattle.flight_line.specs.AirUsers.{air_asked, air_set, air_user}
use Rattle.flight_line.specs.Boths.{Both, both_reply, unless_refused, elapse_reply, cut_reply}
use Rattle.flight_line.specs.Lines.{ended, refused_line, both_ready, elapse_line, count_in, carry_count, carry_line, then_lost, cut_line, flight_as, flight_line, flight_words}
use Rattle.bench_line.specs.Lines as ground
use Rattle.air_line.specs.Lines as air
use Rattle.text.specs.Letters.{ascii}

-- a test that is known
pub by : {X : Type 0} (f g : Bool) (x y : X) → f ≡ g → pick f x y ≡ pick g x y
by f g x y e = ap (λ (h : Bool). pick h x y) e

module _ (w : World) (line : List ℕ) where
  pub ground-other : is_user line ≡ false → ground_user w line ≡ refused w 17
  unfolding ground_user
  ground-other h = by (is_user line) false _ _ h

  pub ground-asks : is_user line ≡ true → w.ground_end.ready ≡ true → ground_user w line ≡ ground_asked w (ground.parsed_line line)
  unfolding ground_user
  ground-asks h r = by (is_user line) true _ _ h ∙ by w.ground_end.ready true _ _ r

  pub ground-sets : is_user line ≡ true → w.ground_end.ready ≡ false → ground_user w line ≡ ground_set w line
  unfolding ground_user
  ground-sets h r = by (is_user line) true _ _ h ∙ by w.ground_end.ready false _ _ r

  pub air-other : is_user line ≡ false → air_user w line ≡ refused w 17
  unfolding air_user
  air-other h = by (is_user line) false _ _ h

  pub air-asks : is_user line ≡ true → w.air.ready ≡ true → air_user w line ≡ air_asked w (air.parsed_line line)
  unfolding air_user
  air-asks h r = by (is_user line) true _ _ h ∙ by w.air.ready true _ _ r

  pub air-sets : is_user line ≡ true → w.air.ready ≡ false → air_user w line ≡ air_set w line
  unfolding air_user
  air-sets h r = by (is_user line) true _ _ h ∙ by w.air.ready false _ _ r

-- an elapse that an end refuses
module _ (w : World) (b : Both) where
  pub first-refuses : (b.ground_end.refusal ≡ 0 → ⊥) → unless_refused w b ≡ refused w b.ground_end.refusal
  unfolding unless_refused
  first-refuses h = by _ false _ _ (ne_eqb b.ground_end.refusal 0 h)

  pub second-refuses : b.ground_end.refusal ≡ 0 → (b.air.refusal ≡ 0 → ⊥) → unless_refused w b ≡ refused w b.air.refusal
  unfolding unless_refused
  second-refuses g h = by _ true _ _ (eq-eqb b.ground_end.refusal 0 g) ∙ by _ false _ _ (ne_eqb b.air.refusal 0 h)

  pub none-refuses : b.ground_end.refusal ≡ 0 → b.air.refusal ≡ 0 → unless_refused w b ≡ both_reply b
  unfolding unless_refused
  none-refuses g h = by _ true _ _ (eq-eqb b.ground_end.refusal 0 g) ∙ by _ true _ _ (eq-eqb b.air.refusal 0 h)

-- letters that come or are thrown away
module _ (w : World) (number : ℕ) (tail : List ℕ) (hear : Bool) where
  pub carry-unset : both_ready w ≡ false → carry_line w number tail hear ≡ refused_line w
  unfolding carry_line
  carry-unset h = by (both_ready w) false _ _ h

  module _ (k : ℕ) (k-is : k ≡ count_in (length w.under) tail) (set : both_ready w ≡ true) where
    pub carry-none : k ≡ 0 → carry_line w number tail hear ≡ refused_line w
    unfolding carry_line carry_count
    carry-none h = by (both_ready w) true _ _ set ∙ rw (← k-is) (by (eqb k 0) true _ _ (eq-eqb k 0 h))

    pub carry-some : (k ≡ 0 → ⊥) → carry_line w number tail hear ≡ onto (ascii "ok\n") (carried hear k number 0 w)
    unfolding carry_line carry_count
    carry-some h = by (both_ready w) true _ _ set ∙ rw (← k-is) (by (eqb k 0) false _ _ (ne_eqb k 0 h))

-- an elapse by whether both ends have their settings
module _ (w : World) (n : ℕ) where
  pub elapse-unset : both_ready w ≡ false → elapse_line w (Some n) ≡ refused_line w
  unfolding elapse_line
  elapse-unset h = by (both_ready w) false _ _ h

  pub elapse-goes : both_ready w ≡ true → elapse_line w (Some n) ≡ ended (elapse_reply w n)
  unfolding elapse_line
  elapse-goes h = by (both_ready w) true _ _ h

module _ (w : World) (number : ℕ) (tail : List ℕ) where
  pub cut-more : (length tail ≡ 0 → ⊥) → cut_line w number tail ≡ refused_line w
  unfolding cut_line
  cut-more h = by _ false _ _ (ne_eqb (length tail) 0 h)

  pub cut-unset : length tail ≡ 0 → both_ready w ≡ false → cut_line w number tail ≡ refused_line w
  unfolding cut_line
  cut-unset h r = by _ true _ _ (eq-eqb (length tail) 0 h) ∙ by (both_ready w) false _ _ r

  pub cut-goes : length tail ≡ 0 → both_ready w ≡ true → cut_line w number tail ≡ then_lost number (ended (cut_reply w))
  unfolding cut_line
  cut-goes h r = by _ true _ _ (eq-eqb (length tail) 0 h) ∙ by (both_ready w) true _ _ r

-- a line by its word
module _ (w : World) (number : ℕ) (line : List ℕ) where
  pub long-line : 4096 < length line → flight_line w number line ≡ refused_line w
  unfolding flight_line
  long-line h = by _ true _ _ (lt-ltb 4096 (length line) h)

  pub short-line : (k : ℕ) → length line ≤ 4096 → k ≡ found_from 0 (take (word_end line) line) flight_words → flight_line w number line ≡ flight_as w number line k
  unfolding flight_line
  short-line k h e = by _ false _ _ (le-ltb 4096 (length line) h) ∙ rw (← e)
