use mathlib.Core.Bool.{true, false}
use Rattle.text_lines.proofs.Pulling.{piece-extends}
use Rattle.text_lines.proofs.input.extend.Goals as goal

pub returns-then-g : goal.returns-then-g
returns-then-g c = let s = c.args in
    piece-extends s.l s.chunk.now s.line.now _ _ _ c.shown-n.ensures c.gather-g.ensures c.requires c.gather-g.auto.line true (rw c.if-g.true)

pub returns-then-input : goal.returns-then-input
returns-then-input c = let s = c.args in
    piece-extends s.l s.chunk.now s.line.now _ _ _ c.shown-n.ensures c.gather-g.ensures c.requires c.gather-g.auto.line false (rw (c.if-g.false, c.if-input.true))

pub returns : goal.returns
returns c = let s = c.args in
    piece-extends s.l s.chunk.now s.line.now _ _ _ c.shown-n.ensures c.gather-g.ensures c.requires c.gather-g.auto.line _ (rw (c.if-g.false, c.if-input.false))
