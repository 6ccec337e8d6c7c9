use Rattle.channel.proofs.Laws.{length-mapped}
use mathlib.Core.Path.{◌≡◌}
use lib.ListN.{length, length-take}
use Rattle.channel.specs.Channel.{held_in}
use Rattle.std.proofs.Common.{rules}
use Rattle.channel.proofs.count.Goals as goal

pub returns : goal.returns
unfolding held_in
returns c = let whole : length c.args.c.letters ≡ 17 = search (rules, length-mapped) in rw (length-take c.args.c.n c.args.c.letters, whole) c.least.ensures.is
