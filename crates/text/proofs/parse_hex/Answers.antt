use native.Mathlib.Omega.{arith}
use borrow.Author.Tests.{not-true, not-false}
use mathlib.Core.Bool.{true, false}
use Rattle.text.specs.Text.{hex_good, hex_of, hex_into}
use borrow.Author.Tests.{le-leb, lt-leb}
use mathlib.Core.Path.{◌≡◌, sym, ◌∙◌}
use Rattle.text.proofs.parse_hex.Goals as goal

pub returns-then-not-hex_good : goal.returns-then-not-hex_good
unfolding hex_of hex_into
returns-then-not-hex_good c = let g : hex_good c.args.s.now ≡ false = sym c.hex_good.ensures ∙ not-true _ c.if-not-hex_good.true-raw in
    record { found_is = rw g; buffer_is = rw g }

pub returns-then-n-out : goal.returns-then-n-out
unfolding hex_of hex_into
returns-then-n-out c = let g : hex_good c.args.s.now ≡ true = sym c.hex_good.ensures ∙ not-false _ c.if-not-hex_good.false-raw in
    record { found_is = rw (g, lt-leb _ _ c.if-n-out.true); buffer_is = rw (g, lt-leb _ _ c.if-n-out.true) }

pub hex_fill-requires : goal.hex_fill-requires
hex_fill-requires c = (sym c.hex_good.ensures ∙ not-false _ c.if-not-hex_good.false-raw, omega arith)

pub returns : goal.returns
unfolding hex_of hex_into
returns c = let g : hex_good c.args.s.now ≡ true = sym c.hex_good.ensures ∙ not-false _ c.if-not-hex_good.false-raw in
    record { found_is = rw (g, le-leb _ _ c.if-n-out.false); buffer_is = rw (g, le-leb _ _ c.if-n-out.false) c.hex_fill.ensures }
