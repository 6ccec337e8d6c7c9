use Rattle.channel.proofs.Laws.{length-mapped, push-room, push-full}
use mathlib.Core.Path.{◌≡◌}
use lib.ListN.{length}
use Rattle.channel.specs.Channel.{held_in}
use Rattle.std.proofs.Common.{rules}
use Rattle.channel.proofs.push.Goals as goal

pub returns-then-n-ge-SLOTS : goal.returns-then-n-ge-SLOTS
unfolding held_in
returns-then-n-ge-SLOTS c = let whole : length c.args.c.letters ≡ 17 = search (rules, length-mapped) in push-full _ _ _ whole c.if-n-ge-SLOTS.true

pub returns : goal.returns
unfolding held_in
returns c = let whole : length c.args.c.letters ≡ 17 = search (rules, length-mapped) in push-room _ _ _ whole c.if-n-ge-SLOTS.false
