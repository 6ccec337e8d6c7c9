use mathlib.Core.Path.{refl}
use Rattle.log_bench.proofs.player.cut_off.Goals as goal

pub returns : goal.returns
returns c = refl
