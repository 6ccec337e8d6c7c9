use mathlib.Core.Path.{◌∙◌}
use lib.ListN.{length}
use Rattle.script.proofs.Heard.{heard-makes}
use Rattle.bench_line.specs.Lines.{ground_script}
use Rattle.bench_line.proofs.line.parse_line.Goals as goal

pub returns : goal.returns
returns c = let k = c.read_line-heard in
    c.make_call.ensures ∙ heard-makes ground_script (length c.args.octets.now) c.args.line.now k.new.octets k.result k.ensures
