use borrow.Author.Tests.{ne_eqb}
use mathlib.Core.Path.{refl, sym}
use lib.Seq.{length-take-le}
use Rattle.text.proofs.Laws.{take_min}
use Rattle.bench_line.specs.Lines.{parsed_in, octets_call}
use Rattle.bench_line.proofs.Requests.{request-heard}
use Rattle.bench_line.proofs.line.octets_call.Goals as goal

pub slice_bounds-decode_ground-end : goal.slice_bounds-decode_ground-end
slice_bounds-decode_ground-end c = sym (length-take-le _ _ c.least-m.ensures.within)

pub returns-in-2 : goal.returns-in-2
unfolding octets_call
returns-in-2 c = rw (c.in-2.is, c.request_call.ensures, c.decode_ground.ensures, c.least-m.ensures.is, take_min _ _) (request-heard _ _)

pub returns-in-3 : goal.returns-in-3
unfolding octets_call parsed_in
returns-in-3 c = rw c.in-3.is

pub returns-in-5 : goal.returns-in-5
unfolding octets_call parsed_in
returns-in-5 c = rw c.in-5.is

pub returns-in-6 : goal.returns-in-6
unfolding octets_call parsed_in
returns-in-6 c = rw c.in-6.is

pub returns-in-7 : goal.returns-in-7
unfolding octets_call parsed_in
returns-in-7 c = rw c.in-7.is

pub returns-in-8 : goal.returns-in-8
unfolding octets_call parsed_in
returns-in-8 c = rw c.in-8.is

pub returns-in-9 : goal.returns-in-9
unfolding octets_call parsed_in
returns-in-9 c = rw c.in-9.is

pub returns-in-10 : goal.returns-in-10
unfolding octets_call parsed_in
returns-in-10 c = rw c.in-10.is

pub returns-in-11 : goal.returns-in-11
unfolding octets_call parsed_in
returns-in-11 c = rw c.in-11.is

pub returns-in_default : goal.returns-in_default
unfolding octets_call parsed_in
returns-in_default c = simp (ne_eqb _ 2 c.in_default.in_default-own.rest.0.0.0.0.0.0.0.0.1, ne_eqb _ 3 c.in_default.in_default-own.rest.0.0.0.0.0.0.0.1, ne_eqb _ 5 c.in_default.in_default-own.rest.0.0.0.0.0.0.1, ne_eqb _ 6 c.in_default.in_default-own.rest.0.0.0.0.0.1, ne_eqb _ 7 c.in_default.in_default-own.rest.0.0.0.0.1, ne_eqb _ 8 c.in_default.in_default-own.rest.0.0.0.1, ne_eqb _ 9 c.in_default.in_default-own.rest.0.0.1, ne_eqb _ 10 c.in_default.in_default-own.rest.0.1, ne_eqb _ 11 c.in_default.in_default-own.rest.1) refl
