-- Kinds and scales that name nothing.
use Prim.Native.Nat.{ℕ, suc, ◌-◌, ◌≤◌, ◌<◌}
use mathlib.Core.Path.{◌≡◌, sym, ap}
use mathlib.Core.List.{List}
use native.Mathlib.Omega.{arith}
use mathlib.Core.Bool.{cond}
use lib.Dec.{eqb}
use Rattle.std.proofs.lemmas.Bool.Decides.{nat_tests}
use borrow.Author.Tests.{ne_eqb}
use lib.ListN.{get_or, get_or-eq_default}
use Rattle.pdu_parts.specs.declared.interval.Interval.TheVariants as interval
use Rattle.pdu.specs.declared.uplink.Ground.TheVariants as ground
use Rattle.pdu.specs.declared.downlink.Air.TheVariants as air
use Rattle.host_numbers.specs.UplinkNumbers.{ground_kinds, interval_of}
use Rattle.host_numbers.specs.DownlinkNumbers.{air_kinds}

pub other-ground : (k : ℕ) (f : List ℕ) → 8 ≤ k → ground.Abort 8 ≡ get_or (ground_kinds f) k (ground.Abort 8)
other-ground k f h = sym (get_or-eq_default (ground_kinds f) (ground.Abort 8) h)

pub other-air : (k : ℕ) (f : List ℕ) → 9 ≤ k → air.Abort 8 ≡ get_or (air_kinds f) k (air.Abort 8)
other-air k f h = sym (get_or-eq_default (air_kinds f) (air.Abort 8) h)

pub other-scale : (k n : ℕ) → 2 ≤ k → interval.Seconds 0 ≡ interval_of k n
other-scale k n h = let e : suc (suc (k - 2)) ≡ k = omega arith in ap (λ (m : ℕ). interval_of m n) e

-- ---- kinds 4 and 5
pub four-or-five : {A : Type 0} (k : ℕ) (x y : A) → 4 ≤ k → k < 6 → x ≡ cond (eqb k 4) x (cond (eqb k 5) x y)
four-or-five k x y h l = grind (arith, nat_tests)

pub below-four : {A : Type 0} (k : ℕ) (x y : A) → k < 4 → y ≡ cond (eqb k 4) x (cond (eqb k 5) x y)
below-four k x y h = rw (ne_eqb k 4 (λ e. omega (arith, e, h)), ne_eqb k 5 (λ e. omega (arith, e, h)))

pub over-five : {A : Type 0} (k : ℕ) (x y : A) → 6 ≤ k → y ≡ cond (eqb k 4) x (cond (eqb k 5) x y)
over-five k x y h = rw (ne_eqb k 4 (λ e. omega (arith, e, h)), ne_eqb k 5 (λ e. omega (arith, e, h)))
