use Prim.Native.Nat.{ℕ, ◌-◌}
use mathlib.Core.Path.{ap, ◌∙◌}
use mathlib.Core.List.{List}
use lib.Seq.{sets}
use Rattle.octets.specs.Octets.{zeros}
use Rattle.host_log.proofs.Ways.{at-end, no_block, is-opened}
use Rattle.host_log.proofs.recording.open_block.Goals as goal

pub returns-then-number-ge-BLOCKS : goal.returns-then-number-ge-BLOCKS
returns-then-number-ge-BLOCKS c = at-end _ _ c.if-number-ge-BLOCKS.true

pub returns-then-block-ne-BLOCK : goal.returns-then-block-ne-BLOCK
returns-then-block-ne-BLOCK c = no_block _ _ c.if-number-ge-BLOCKS.false c.if-block-ne-BLOCK.true

pub returns : goal.returns
returns c = is-opened c.args.number c.args.block.now c.if-number-ge-BLOCKS.false c.if-block-ne-BLOCK.false _ (c.put_zeros.ensures ∙ ap (λ (s : List ℕ). sets s 4 (zeros (512 - 4))) c.put_word.ensures)
