use mathlib.Core.Path.{sym, ◌∙◌}
use native.Mathlib.Omega.{arith}
use Rattle.per.proofs.Compose.{climb}
use Rattle.host_numbers.specs.DownlinkNumbers.{kind_at}
use Rattle.host_numbers.proofs.Others.{other-air}
use Rattle.host_numbers.proofs.downlink.kind_at.Goals as goal

pub returns-in-0 : goal.returns-in-0
unfolding kind_at
returns-in-0 c = rw (sym c.number.ensures ∙ c.in-0.is)

pub returns-in-1 : goal.returns-in-1
unfolding kind_at
returns-in-1 c = rw (sym c.number.ensures ∙ c.in-1.is, c.acked_at.ensures)

pub returns-in-2 : goal.returns-in-2
unfolding kind_at
returns-in-2 c = rw (sym c.number.ensures ∙ c.in-2.is, c.urgent_at.ensures)

pub returns-in-3 : goal.returns-in-3
unfolding kind_at
returns-in-3 c = rw (sym c.number.ensures ∙ c.in-3.is, c.event_at.ensures)

pub returns-in-4 : goal.returns-in-4
unfolding kind_at
returns-in-4 c = rw (sym c.number.ensures ∙ c.in-4.is, c.negative_at.ensures)

pub returns-in-5 : goal.returns-in-5
unfolding kind_at
returns-in-5 c = rw (sym c.number.ensures ∙ c.in-5.is, c.number-in-5.ensures)

pub returns-in-6 : goal.returns-in-6
unfolding kind_at
returns-in-6 c = rw (sym c.number.ensures ∙ c.in-6.is, c.acked_at-in-6.ensures)

pub returns-in-7 : goal.returns-in-7
unfolding kind_at
returns-in-7 c = rw (sym c.number.ensures ∙ c.in-7.is, c.number-in-7.ensures)

pub returns-in-8 : goal.returns-in-8
unfolding kind_at
returns-in-8 c = rw (sym c.number.ensures ∙ c.in-8.is, c.number-in-8.ensures)

pub returns-in_default : goal.returns-in_default
unfolding kind_at
returns-in_default c = let k = c.number in
    let r = c.in_default.in_default-own.rest in
    rw (← k.ensures) (other-air k.result _ (climb k.result 8 (climb k.result 7 (climb k.result 6 (climb k.result 5 (climb k.result 4 (climb k.result 3 (climb k.result 2 (climb k.result 1 (climb k.result 0 (omega arith) r.0.0.0.0.0.0.0.0.1) r.0.0.0.0.0.0.0.1) r.0.0.0.0.0.0.1) r.0.0.0.0.0.1) r.0.0.0.0.1) r.0.0.0.1) r.0.0.1) r.0.1) r.1))
