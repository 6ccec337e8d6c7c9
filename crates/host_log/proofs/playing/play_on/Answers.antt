use mathlib.Core.Path.{sym, ap, ◌∙◌}
use Rattle.bench.specs.declared.reply.Setup.{Setup}
use Rattle.log_play.specs.Plays.{play_block, played_in}
use Rattle.host_log.proofs.Ways.{bad-record, not-played, played-ready, played-blank}
use Rattle.host_log.proofs.playing.play_on.Goals as goal

pub returns-then-not-box_good : goal.returns-then-not-box_good
returns-then-not-box_good c = bad-record c.args.link.now c.args.number c.args.block.now (sym c.box_good.ensures ∙ c.if-not-box_good.true)

pub returns-then-p-ne0 : goal.returns-then-p-ne0
returns-then-p-ne0 c = let a = c.args in
    let n = a.number in
    let b = a.block.now in
    let h = sym c.box_good.ensures ∙ c.if-not-box_good.false in
    let p = c.play_block-p in
    let e = p.ensures ∙ ap (λ (x : Setup). played_in x (play_block x n b)) c.box_in.ensures in
    not-played a.link.now n b h p.result e c.if-p-ne0.true

pub returns-then-p : goal.returns-then-p
returns-then-p c = let a = c.args in
    let n = a.number in
    let b = a.block.now in
    let h = sym c.box_good.ensures ∙ c.if-not-box_good.false in
    let p = c.play_block-p in
    let e = p.ensures ∙ ap (λ (x : Setup). played_in x (play_block x n b)) c.box_in.ensures in
    played-ready a.link.now n b h p.result e c.if-p-ne0.false c.if-p.true _ c.save.ensures

pub returns-else-p : goal.returns-else-p
returns-else-p c = let a = c.args in
    let n = a.number in
    let b = a.block.now in
    let h = sym c.box_good.ensures ∙ c.if-not-box_good.false in
    let p = c.play_block-p in
    let e = p.ensures ∙ ap (λ (x : Setup). played_in x (play_block x n b)) c.box_in.ensures in
    played-blank a.link.now n b h p.result e c.if-p-ne0.false c.if-p.false
