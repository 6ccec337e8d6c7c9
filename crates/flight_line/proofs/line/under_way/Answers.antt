use Rattle.channel.proofs.Laws.{length-mapped}
use Rattle.flight_line.proofs.Short.{held-most}
use mathlib.Core.Path.{◌≡◌}
use lib.ListN.{length}
use Rattle.std.proofs.Common.{rules}
use Rattle.flight_line.proofs.line.under_way.Goals as goal

pub returns : goal.returns
returns c = let whole : length c.args.c.letters ≡ 17 = search (rules, length-mapped) in
    record { is = c.count.ensures; most = rw c.count.ensures (held-most c.args.c whole) }
