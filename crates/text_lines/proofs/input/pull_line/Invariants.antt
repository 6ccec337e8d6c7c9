use mathlib.Core.Path.{◌≡◌}
use mathlib.Core.Bool.{Bool, false}
use mathlib.Core.List.{List}
use Prim.Native.Nat.{ℕ, ◌≤◌, ◌<◌}
use lib.ListN.{length, take}
use Rattle.text_lines.specs.Pulls.{Left, left_of, Brought}
use Rattle.text_lines.proofs.input.pull_line.Given as goal

abbrev pub invariant-loop : goal.invariant-loop
invariant-loop l = (length l.chunk ≡ length l.initial.chunk) × (length l.line ≡ length l.initial.line) × (l.l.at < 65536) × (l.l.len ≤ length l.line) × (l.l.failed ≡ false) × ((w : List ℕ) (f : Bool) (a : Left) → Brought (length l.initial.line) (take l.l.len l.line) (left_of l.l.input l.chunk) w f a → Brought (length l.initial.line) (take l.initial.l.len l.initial.line) (left_of l.initial.l.input l.initial.chunk) w f a)
