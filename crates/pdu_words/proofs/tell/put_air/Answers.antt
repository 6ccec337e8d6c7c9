use mathlib.Core.Path.{◌≡◌}
use native.Mathlib.Omega.{arith}
use lib.ListN.{length}
use lib.Seq.{take_all}
use Rattle.std.proofs.Common.{rules}
use Rattle.pdu_words.proofs.tell.put_air.Goals as goal

pub returns : goal.returns
returns c = let full : length c.args.list.items ≡ 128 = search rules in
    rw (← c.flat_air-f.ensures, take_all 128 c.args.list.items (omega (arith, full))) c.put_air.ensures
