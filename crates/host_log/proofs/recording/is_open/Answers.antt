use mathlib.Core.Path.{ap, ◌∙◌}
use lib.ListN.{length}
use Rattle.log_blocks.specs.Tapes.{tape, fitting}
use Rattle.log_blocks.specs.declared.Tape.{Tape}
use Rattle.host_log.specs.Recording.{is_open}
use Rattle.host_log.proofs.recording.is_open.Goals as goal

pub returns : goal.returns
unfolding is_open
returns c = c.fits.ensures ∙ ap (λ (t : Tape). fitting (tape t.number t.used) (length c.args.block.now)) c.tape_in-t.ensures
