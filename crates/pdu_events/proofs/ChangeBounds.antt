-- An event contract has the writer's own form alone, and at most 124 bits. Assumes nothing.
use Prim.Native.Nat.{ℕ, ◌+◌, ◌-◌, ◌≤◌}
use mathlib.Core.Bool.{Bool, true, false, cond}
use lib.Dec.{eqb, lit≤}
use Rattle.per.specs.Bits.{width, width_in}
use Rattle.per.specs.Codec.{Within}
use Rattle.per.specs.Formats.{num, num_field, signed_field}
use Rattle.per.proofs.Within.{forms}
use Rattle.per.proofs.Longest.{Most, up, a-field, a_pair, a-like, an-only, a-when}
use Rattle.pdu_events.specs.Elements.{EVENT-BITS}
use Rattle.pdu_events.specs.Changes.{level_range_c, either_c, changes_c}

-- ---- one form
range-own : (n : ℕ) → Within n level_range_c
unfolding level_range_c
range-own n = search forms depth 12

either-own : (n first second : ℕ) → Within n (either_c first second)
unfolding either_c
either-own n first second = search forms depth 12

pub changes-own : (n : ℕ) → Within n changes_c
unfolding changes_c
changes-own n = search (forms, range-own, either-own) depth 28

-- ---- how long
range-most : Most 28 level_range_c
unfolding level_range_c width width_in
range-most = up (lit≤ tt) (a-like _ _ _ _ (a_pair _ (a-field (signed_field 75 10000)) (λ a. a-field (signed_field 75 10000))))

top-most : (n first second : ℕ) (b : Bool) → width (first - 1) ≤ n → width (second - 1) ≤ n → Most n (num 1 (cond b first second))
top-most n first second true h k = up h (a-field (num_field 1 first))
top-most n first second false h k = up k (a-field (num_field 1 second))

either-most : (n first second : ℕ) → width (first - 1) ≤ n → width (second - 1) ≤ n → Most (width 1 + n) (either_c first second)
unfolding either_c
either-most n first second h k = a-like _ _ _ _ (a_pair _ (a-field (num_field 0 1)) (λ kind. top-most n first second (eqb kind 0) h k))

air-speed-most : Most 11 (either_c 255 700)
unfolding width width_in
air-speed-most = either-most 10 255 700 (lit≤ tt) (lit≤ tt)

profile-most : Most 8 (either_c 80 128)
unfolding width width_in
profile-most = either-most 7 80 128 (lit≤ tt) (lit≤ tt)

pub changes-most : Most 124 changes_c
unfolding changes_c width width_in
changes-most =
    up (lit≤ tt) (a-like _ _ _ _ (a_pair _ (an-only _ (a-field (num_field 0 EVENT-BITS))) (λ v. a_pair _ (a-when _ _ (a-field (num_field 0 2000)))
    (λ a. a_pair _ (a-when _ _ (a-field (signed_field 3000 3000))) (λ b. a_pair _ (a-when _ _ range-most) (λ c. a_pair _ (a-when _ _ air-speed-most)
    (λ d. a_pair _ (a-when _ _ (a-field (num_field 0 300))) (λ e. a_pair _ (a-when _ _ (a-field (num_field 1 3600))) (λ f. a_pair _ (a-when _ _ profile-most)
    (λ g. a_pair _ (a-when _ _ (a-field (num_field 1 3600))) (λ h. a-when _ _ (a-field (num_field 1 500)))))))))))))
