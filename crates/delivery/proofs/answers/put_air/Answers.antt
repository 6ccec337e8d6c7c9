use Rattle.delivery.proofs.Short.{air-short}
use mathlib.Core.Path.{◌≡◌}
use native.Mathlib.Omega.{arith}
use lib.ListN.{length}
use Rattle.std.proofs.Common.{rules}
use Rattle.delivery.proofs.answers.put_air.Goals as goal

pub returns : goal.returns
returns c = let room : length c.args.said.sent.octets ≡ 115 = search rules in
    let eight : length c.args.said.acts.list ≡ 8 = search rules in
    record { text_is = c.put_answer.ensures.text_is; short = air-short c.args.said _ (eight) (omega (arith, room)) }
