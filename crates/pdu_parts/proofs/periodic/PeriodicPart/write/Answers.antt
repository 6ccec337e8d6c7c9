use mathlib.Core.Path.{◌≡◌, ap, ◌∙◌}
use mathlib.Core.Bool.{Bool}
use Rattle.per.specs.Formats.{field, only, recast}
use Rattle.per.specs.laws.Codec.{unless-le, unless-gt}
use Rattle.per.proofs.Inks.{inks-by, inks-recast, inks-refused}
use Rattle.pdu_parts.specs.Interval.{interval_if, is_five, sent_bits, moduli_c}
use Rattle.pdu_parts.specs.Periodic.{periodic_c}
use Rattle.pdu_parts.proofs.periodic.PeriodicPart.write.Goals as goal

pub returns-then-a-gt-REPORT_BITS : goal.returns-then-a-gt-REPORT_BITS
unfolding periodic_c recast
returns-then-a-gt-REPORT_BITS c = let e = unless-gt _ _ 5 c.if-a-gt-REPORT_BITS.true in
    inks-refused periodic_c 5 (rw e) (rw e) (rw c.number.ensures.is at c.refuse.ensures)

pub returns : goal.returns
unfolding periodic_c moduli_c field only interval_if
returns c = let a = c.args.a in
    let v : c.bits_of-v.result ≡ sent_bits (is_five a.interval) a.elements = c.bits_of-v.ensures ∙ ap (λ (b : Bool). sent_bits b a.elements) c.is_five.ensures in
    inks-recast _ _ _ _ _ _ (unless-le _ _ 5 c.if-a-gt-REPORT_BITS.false) (inks-by _ _ (rw v at c.mask-p.ensures)
    (inks-by _ _ (rw (c.present.ensures, v) at c.write_if-p.ensures) (inks-by _ _ (rw (c.present-2.ensures, v) at c.num_if-p.ensures)
    (inks-by _ _ (rw (c.present-3.ensures, v) at c.num_if-p-2.ensures) (inks-by _ _ (rw (c.present-4.ensures, v) at c.num_if-p-3.ensures)
    (inks-by _ _ (rw (c.present-5.ensures, v) at c.num_if-p-4.ensures) (rw (c.present-6.ensures, v) at c.num_if.ensures)))))))
