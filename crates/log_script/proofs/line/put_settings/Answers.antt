use mathlib.Core.Path.{◌≡◌}
use lib.ListN.{length}
use Rattle.link.specs.Names.{timers}
use Rattle.log_script.proofs.Fronts.{settings-front}
use Rattle.std.proofs.Common.{rules}
use Rattle.log_script.proofs.line.put_settings.Goals as goal

pub returns : goal.returns
returns c = let wide : length c.args.l.left ≡ timers = search rules in
    let long : length c.args.l.setting ≡ timers = search rules in
    settings-front c.args.l (long) (wide) _ _ _ _ (search rules) c.save.ensures c.requires c.put_octets.ensures
