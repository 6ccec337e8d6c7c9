use Rattle.text.specs.Text.{hex_text}
use Rattle.text.specs.Page.{page, wrote}
use lib.ListN.{length, drop}
use mathlib.Core.Path.{◌≡◌}
use Rattle.text.proofs.put_hex.Given as goal

abbrev pub invariant-loop-o : goal.invariant-loop-o
invariant-loop-o l = (length l.out ≡ length l.initial.out) × (wrote (page l.out l.a) (hex_text (drop l.o-index l.s)) ≡ wrote (page l.initial.out l.at) (hex_text l.s))
