use borrow.Author.Tests.{ne_eqb}
use Rattle.air_line.specs.Lines.{parsed_with, plain_call}
use Rattle.air_line.proofs.line.plain_call.Goals as goal

pub returns-in-3 : goal.returns-in-3
unfolding plain_call parsed_with
returns-in-3 c = λ o. rw c.in-3.is

pub returns-in-5 : goal.returns-in-5
unfolding plain_call parsed_with
returns-in-5 c = λ o. rw c.in-5.is

pub returns-in-6 : goal.returns-in-6
unfolding plain_call parsed_with
returns-in-6 c = λ o. rw c.in-6.is

pub returns-in-7 : goal.returns-in-7
unfolding plain_call parsed_with
returns-in-7 c = λ o. rw c.in-7.is

pub returns-in-8 : goal.returns-in-8
unfolding plain_call parsed_with
returns-in-8 c = λ o. rw c.in-8.is

pub returns-in-9 : goal.returns-in-9
unfolding plain_call parsed_with
returns-in-9 c = λ o. rw c.in-9.is

pub returns-in-10 : goal.returns-in-10
unfolding plain_call parsed_with
returns-in-10 c = λ o. rw c.in-10.is

pub returns-in_default : goal.returns-in_default
unfolding plain_call parsed_with
returns-in_default c = λ o. rw (ne_eqb _ 3 c.in_default.in_default-own.rest.0.0.0.0.0.0.1, ne_eqb _ 5 c.in_default.in_default-own.rest.0.0.0.0.0.1, ne_eqb _ 6 c.in_default.in_default-own.rest.0.0.0.0.1, ne_eqb _ 7 c.in_default.in_default-own.rest.0.0.0.1, ne_eqb _ 8 c.in_default.in_default-own.rest.0.0.1, ne_eqb _ 9 c.in_default.in_default-own.rest.0.1, ne_eqb _ 10 c.in_default.in_default-own.rest.1)
