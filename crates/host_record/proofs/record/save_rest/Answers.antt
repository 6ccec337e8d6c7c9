use mathlib.Core.Path.{◌≡◌, sym, ◌∙◌}
use lib.ListN.{length}
use Rattle.link.specs.Names.{timers}
use Rattle.host_record.proofs.Puts.{record-rest, saved-record, saved-other}
use Rattle.std.proofs.Common.{rules}
use Rattle.host_record.proofs.record.save_rest.Goals as goal

pub returns-then-out-ne-RECORD : goal.returns-then-out-ne-RECORD
returns-then-out-ne-RECORD c = sym (saved-other c.args.l c.args.out.now c.if-out-ne-RECORD.true)

pub returns : goal.returns
returns c = let wide : length c.args.l.left ≡ timers = search rules in
    let n = c.if-out-ne-RECORD.false in
    c.put_rest.ensures
    ∙ record-rest c.args.l (wide) c.args.out.now n (λ i. (c.slice_known-1.given i).fits) c.requires
    ∙ sym (saved-record c.args.l c.args.out.now n)
