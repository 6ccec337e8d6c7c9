-- A difference of two numbers, as the machine makes a number with a sign of it. Assumes nothing.
use Prim.Native.Nat.{ℕ, zero, suc, ◌-◌, ◌^◌, ◌<◌}
use mathlib.Core.Path.{◌≡◌, refl, ap, ◌∙◌}
use mathlib.Core.Bool.{Bool, true, false, cond}
use native.Mathlib.Omega.{arith}
use lib.Dec.{ltb}
use lib.IntN.{pos, negsuc, sub_ℕ, ◌-ℤ◌}
use lib.Signed.{mag}
use borrow.Author.Tests.{le-ltb}
use mir.Syntax.{w32}
use mir.Val.{SFits, to_z, of_z}
use mir.Facts.{to_z_pos, to_z-of_z}

pub mag_less : (h n k : ℕ) → n < h → k < h → mag (sub_ℕ n k) < h
mag_less h n k p q = go (ltb n k)
  where
    go : (b : Bool) → mag (cond b (negsuc (k - suc n)) (pos (n - k))) < h
    go true = omega arith
    go false = omega arith

sub_is : (n k : ℕ) → pos n -ℤ pos k ≡ sub_ℕ n k
sub_is n zero = rw (le-ltb n 0 (omega arith)) (ap pos (omega arith))
sub_is n (suc k) = refl

-- `n as i32 - k as i32`
pub less-fits : (n k : ℕ) → n < 2 ^ 31 → k < 2 ^ 31 → SFits w32 (to_z w32 n -ℤ to_z w32 k)
less-fits n k p q = rw (to_z_pos w32 p, to_z_pos w32 q, sub_is n k) (record { sfits = mag_less (2 ^ 31) n k p q })

pub less-is : (n k : ℕ) → n < 2 ^ 31 → k < 2 ^ 31 → to_z w32 (of_z w32 (to_z w32 n -ℤ to_z w32 k)) ≡ sub_ℕ n k
less-is n k p q = to_z-of_z (less-fits n k p q) ∙ rw (to_z_pos w32 p, to_z_pos w32 q, sub_is n k)
