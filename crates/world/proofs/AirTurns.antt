-- The two ways of a call of the aircraft. Assumes nothing.
use mathlib.Core.Path.{◌≡◌}
use Prim.Native.Nat.{ℕ, ◌≤◌, ◌<◌}
use borrow.Author.Tests.{lt-ltb, le-ltb}
use lib.ListN.{length}
use Rattle.air_answer.specs.declared.answer.Answer.{Answer}
use Rattle.sending.specs.Ways.{Way, way}
use Rattle.world.specs.World.{World}
use Rattle.world.specs.AirTurns.{sent_by, goes_on, stays, turn_with}

module _ (w : World) (n : ℕ) (a : Answer) (x : Way) (is : x ≡ sent_by a.said (way w.under n)) where
  pub turn-stays : 16 < length x.under → stays w ≡ turn_with w n a
  unfolding turn_with
  turn-stays h = rw (← is, lt-ltb _ _ h)

  pub turn-goes : length x.under ≤ 16 → goes_on w n a x ≡ turn_with w n a
  unfolding turn_with
  turn-goes h = rw (← is, le-ltb _ _ h)
