use mathlib.Core.Path.{◌≡◌, ◌∙◌}
use lib.ListN.{length}
use Rattle.link.specs.Names.{timers}
use Rattle.host_record.proofs.Puts.{rest-run}
use Rattle.std.proofs.Common.{rules}
use Rattle.host_record.proofs.record.put_rest.Goals as goal

pub returns : goal.returns
returns c = let wide : length c.args.l.left ≡ timers = search rules in
    c.put_intervals.ensures
    ∙ rw (c.put_states.ensures, c.put_words.ensures) (rest-run c.args.l (wide) c.args.out.now)
