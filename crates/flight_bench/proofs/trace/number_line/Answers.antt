use Rattle.flight_bench.specs.Trace.{numbered}
use Rattle.flight_bench.proofs.Stands.{numbered-short}
use Rattle.text.proofs.Pages.{after}
use Rattle.flight_bench.proofs.trace.number_line.Goals as goal

pub returns : goal.returns
unfolding numbered
returns c = let n = c.bump-number.ensures in
    let f = c.fly_line-f.ensures in
    record { number_is = n; world_is = rw (← n) f.world_is; text_is = rw (← n) (after c.put_decimal-a.ensures (after c.put_byte-b.ensures f.text_is)); short = rw (← n) (numbered-short _ _ _ f.short) }
