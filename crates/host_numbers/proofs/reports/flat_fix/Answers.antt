use mathlib.Core.Path.{◌≡◌, ◌∙◌}
use lib.ListN.{length}
use Rattle.host_numbers.proofs.Puts.{wide}
use Rattle.std.proofs.Common.{rules}
use Rattle.host_numbers.proofs.reports.flat_fix.Goals as goal

pub returns : goal.returns
returns c = let size : length c.fix_numbers.result ≡ 25 = search rules in
    c.padded.ensures ∙ wide c.fix_numbers.result size ∙ rw c.fix_numbers.ensures
