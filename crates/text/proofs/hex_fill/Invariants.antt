use lib.Seq.{sets}
use mathlib.Core.Bool.{true}
use Rattle.text.specs.Text.{octets_of, all_hex}
use lib.ListN.{length, drop}
use Prim.Native.Nat.{◌*◌}
use mathlib.Core.Path.{◌≡◌}
use Rattle.text.proofs.hex_fill.Given as goal

abbrev pub invariant-loop-i : goal.invariant-loop-i
invariant-loop-i l = (length l.out ≡ length l.initial.out) × (sets l.out l.i (octets_of (drop (2 * l.i) l.s)) ≡ sets l.initial.out 0 (octets_of l.s)) × (all_hex (drop (2 * l.i) l.s) ≡ true)
