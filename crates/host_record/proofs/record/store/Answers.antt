use mathlib.Core.Path.{◌≡◌, ◌∙◌}
use lib.ListN.{length}
use Rattle.link.specs.Names.{timers}
use Rattle.host_record.proofs.Puts.{record-whole}
use Rattle.std.proofs.Common.{rules}
use Rattle.host_record.proofs.record.store.Goals as goal

pub returns : goal.returns
returns c = let wide : length c.args.l.left ≡ timers = search rules in
    let long : length c.args.l.setting ≡ timers = search rules in
    c.put_rest.ensures ∙ rw c.put_words.ensures (record-whole c.args.l (wide) c.args.out.now c.requires (long))
