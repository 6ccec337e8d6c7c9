use mathlib.Core.Path.{sym}
use native.Mathlib.Omega.{arith}
use lib.Seq.{length-take-le}
use Rattle.log_script.proofs.Ways.{hears-as, unread-heard, refused-heard, accepted-hears, request-good}
use Rattle.log_script.proofs.line.hear_call.Goals as goal

pub returns-in_default : goal.returns-in_default
returns-in_default c = let k = c.parse_line-told in
    hears-as _ _ (unread-heard c.args.b c.args.line.now _ _ c.requires k.result k.ensures c.in_default.is) (c.nothing.ensures _)

pub slice_bounds-answer-end-2 : goal.slice_bounds-answer-end-2
slice_bounds-answer-end-2 c = sym (length-take-le _ _ c.least-m.ensures.within)

pub returns-then-a-ne0 : goal.returns-then-a-ne0
returns-then-a-ne0 c = let k = c.parse_line-told in
    let s = c.answer-a in
    hears-as _ _
    (refused-heard c.args.b c.args.line.now _ _ c.requires k.result k.ensures _ _ _ c.in-Makes.is c.least-m.ensures.is s.result s.ensures c.if-a-ne0.true)
    (c.nothing-then-a-ne0.ensures _)

pub put_data-len-requires : goal.put_data-len-requires
put_data-len-requires c = let k = c.parse_line-told in
    let s = c.answer-a in (
      request-good c.args.b c.args.line.now _ _ c.requires k.result k.ensures _ _ _ c.in-Makes.is c.least-m.ensures.is s.result s.ensures c.if-a-ne0.false,
      omega (arith, k.auto.octets, c.requires),
    )

pub returns : goal.returns
returns c = let k = c.parse_line-told in
    let s = c.answer-a in
    accepted-hears c.args.b c.args.line.now _ _ c.requires k.result k.ensures _ _ _ c.in-Makes.is c.least-m.ensures.is s.result s.ensures c.if-a-ne0.false _ _ _ _
    (c.kind_of.ensures _) (c.seconds_of.ensures _) c.put_data-len.ensures
