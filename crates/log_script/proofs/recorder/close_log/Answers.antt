use Rattle.log_script.proofs.Notes.{close-none, close-last}
use Rattle.log_script.proofs.recorder.close_log.Goals as goal

pub returns-then-r-eq0 : goal.returns-then-r-eq0
returns-then-r-eq0 c = let a = c.args in
    close-none a.r a.block.now a.out.now c.if-r-eq0.true

pub returns : goal.returns
returns c = let a = c.args in
    close-last a.r a.block.now a.out.now c.if-r-eq0.false _ _ _ c.turn_block.ensures
