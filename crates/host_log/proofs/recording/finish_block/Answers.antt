use Rattle.std.proofs.Common.{◌≡◌, ℕ, arith}
use Rattle.host_log.proofs.Ways.{is-finished, not-finished}
use Rattle.host_log.proofs.recording.finish_block.Goals as goal

pub returns-in-Ok : goal.returns-in-Ok
returns-in-Ok c = is-finished c.args.block.now _ _ (rw c.tape_in.ensures at c.finish.ensures) (λ e. let z : ◌≡◌ {A = ℕ} 0 1 = cc in omega arith)

pub returns-in-Err : goal.returns-in-Err
returns-in-Err c = not-finished c.args.block.now _ (rw (c.tape_in.ensures, c.in-Err.is) at c.finish.ensures)
