use Rattle.channel.proofs.Laws.{length-mapped, first_any}
use mathlib.Core.Path.{◌≡◌}
use lib.ListN.{length}
use Rattle.channel.specs.Channel.{held_in, oldest_of}
use Rattle.std.proofs.Common.{rules}
use Rattle.channel.proofs.oldest.Goals as goal

pub returns-then-c-eq0 : goal.returns-then-c-eq0
unfolding held_in oldest_of
returns-then-c-eq0 c = rw c.if-c-eq0.true c.blank_letter.ensures

pub returns-else-c-eq0 : goal.returns-else-c-eq0
unfolding held_in oldest_of
returns-else-c-eq0 c = let whole : length c.args.c.letters ≡ 17 = search (rules, length-mapped) in first_any _ _ _ _ c.if-c-eq0.false whole
