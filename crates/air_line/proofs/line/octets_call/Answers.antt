use borrow.Author.Tests.{eq-eqb, ne_eqb}
use mathlib.Core.Path.{sym}
use lib.Seq.{length-take-le}
use Rattle.text.proofs.Laws.{take_min}
use Rattle.air_line.specs.Lines.{parsed_in, octets_call}
use Rattle.air_line.proofs.Requests.{request-heard}
use Rattle.air_line.proofs.line.octets_call.Goals as goal

pub slice_bounds-decode_air-end : goal.slice_bounds-decode_air-end
slice_bounds-decode_air-end c = sym (length-take-le _ _ c.least-m.ensures.within)

pub returns-then-w-eq-REQ : goal.returns-then-w-eq-REQ
unfolding octets_call parsed_in
returns-then-w-eq-REQ c = rw (eq-eqb _ 2 c.if-w-eq-REQ.true, c.request_line.ensures, c.decode_air.ensures, c.least-m.ensures.is, take_min _ _) (request-heard _ _)

pub returns : goal.returns
unfolding octets_call parsed_in
returns c = rw (ne_eqb _ 2 c.if-w-eq-REQ.false, c.bare.ensures) (c.plain_call.ensures _)
