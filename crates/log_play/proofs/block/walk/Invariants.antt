use Prim.Native.Nat.{◌-◌, ◌≤◌}
use mathlib.Core.Path.{◌≡◌}
use Rattle.log_blocks.specs.Log.{records_of}
use Rattle.log_blocks.specs.Record.{form_one}
use Rattle.log_blocks.specs.Play.{with_records, play}
use Rattle.log_blocks.specs.Places.{from}
use Rattle.log_play.specs.Steps.{step_of}
use Rattle.log_play.specs.Plays.{played_in}
use Rattle.log_play.proofs.block.walk.Given as goal

abbrev pub invariant-loop-r : goal.invariant-loop-r
invariant-loop-r l = (l.at ≤ 510)
    × (played_in l.b (with_records (records_of form_one (from l.block l.at)) (play step_of l.setup)) ≡ played_in l.b (with_records (records_of form_one (from l.block 6)) (play step_of l.b)))

abbrev pub decreases-loop-r : goal.decreases-loop-r
decreases-loop-r l = 512 - l.at
