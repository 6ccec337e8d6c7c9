use Rattle.bench_line.specs.Settings.{settings_from, settings_in}
use Rattle.link.specs.Names.{timers}
use lib.ListN.{length, drop}
use Prim.Native.Nat.{◌-◌, ◌≤◌}
use mathlib.Core.Path.{◌≡◌}
use Rattle.bench_line.proofs.settings.parse_settings.Given as goal

abbrev pub invariant-loop-setting : goal.invariant-loop-setting
invariant-loop-setting l = (l.at ≤ length l.s) × (settings_from (timers - l.setting-index) l.setting-index l.setting-items (drop l.at l.s) ≡ settings_in l.s)
