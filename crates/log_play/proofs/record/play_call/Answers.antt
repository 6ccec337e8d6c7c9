use mathlib.Core.Path.{◌≡◌, refl, sym, ap, ◌∙◌}
use lib.ListN.{length}
use lib.Seq.{length-take-le}
use Rattle.link.specs.Names.{timers}
use Rattle.host_record.specs.RecordLayout.{link_of}
use Rattle.host_record.specs.laws.Back.{record-back}
use Rattle.host_record.proofs.Puts.{saved-record, length-record}
use Rattle.bench_line.specs.Lines.{parsed_in}
use Rattle.bench_line.specs.declared.line.LineCall.{LineCall}
use Rattle.log_play.proofs.Calls.{call-is, unread-stays, made-steps, served-accepts}
use Rattle.std.proofs.Common.{rules}
use Rattle.log_play.proofs.record.play_call.Goals as goal

pub returns-in_default : goal.returns-in_default
unfolding parsed_in
returns-in_default c = let h = c.hold_record-held in
    let s = c.shape_of-shape in
    let a = c.args in
    let o = a.octets.now in
    let e = call-is a.kind a.seconds o s.result h.result c.make_call-told.result s.ensures h.ensures c.make_call-told.ensures in
    c.stay.ensures ∙ unread-stays a.b _ (e ∙ ap (λ (x : LineCall). parsed_in x o) c.in_default.is)

pub slice_bounds-serve-end-2 : goal.slice_bounds-serve-end-2
slice_bounds-serve-end-2 c = sym (length-take-le _ _ c.least-m.ensures.within)

pub returns : goal.returns
unfolding parsed_in
returns c = let five : length c.args.b.link.at ≡ 5 = search rules in
    let wide : length c.args.b.link.left ≡ timers = search rules in
    let long : length c.args.b.link.setting ≡ timers = search rules in
    let h = c.hold_record-held in
    let s = c.shape_of-shape in
    let a = c.args in
    let o = a.octets.now in
    let l = a.b.link in
    let e = call-is a.kind a.seconds o s.result h.result c.make_call-told.result s.ensures h.ensures c.make_call-told.ensures in
    let n = c.least-m.ensures in
    let w = c.serve-said in
    let k = c.save.ensures ∙ saved-record l _ refl in
    let u = served-accepts _ _ _ _ _ _ _ (ap length k ∙ length-record l (wide) (long)) (search rules) l (ap link_of k ∙ record-back l (long) (wide) (five)) w.ensures in
    rw (c.accept.ensures, c.load-link.ensures, u) (made-steps a.b _ _ _ _ o (e ∙ ap (λ (x : LineCall). parsed_in x o) c.in-Makes.is) n.is)
