use mathlib.Core.Path.{sym, ◌∙◌}
use native.Mathlib.Omega.{arith}
use Rattle.per.proofs.Compose.{climb}
use Rattle.host_numbers.specs.UplinkNumbers.{ground_at}
use Rattle.host_numbers.proofs.Others.{other-ground}
use Rattle.host_numbers.proofs.uplink.ground_at.Goals as goal

pub returns-in-0 : goal.returns-in-0
unfolding ground_at
returns-in-0 c = rw (sym c.number-kind.ensures ∙ c.in-0.is)

pub returns-in-1 : goal.returns-in-1
unfolding ground_at
returns-in-1 c = rw (sym c.number-kind.ensures ∙ c.in-1.is, c.number-n.ensures)

pub returns-in-2 : goal.returns-in-2
unfolding ground_at
returns-in-2 c = rw (sym c.number-kind.ensures ∙ c.in-2.is)

pub returns-in-3 : goal.returns-in-3
unfolding ground_at
returns-in-3 c = rw (sym c.number-kind.ensures ∙ c.in-3.is, c.number-n.ensures)

pub returns-in-4 : goal.returns-in-4
unfolding ground_at
returns-in-4 c = rw (sym c.number-kind.ensures ∙ c.in-4.is, c.changes_at.ensures)

pub returns-in-5 : goal.returns-in-5
unfolding ground_at
returns-in-5 c = rw (sym c.number-kind.ensures ∙ c.in-5.is, c.interval_of.ensures, c.number.ensures, c.number-in-5.ensures)

pub returns-in-6 : goal.returns-in-6
unfolding ground_at
returns-in-6 c = rw (sym c.number-kind.ensures ∙ c.in-6.is, c.periodic_at.ensures)

pub returns-in-7 : goal.returns-in-7
unfolding ground_at
returns-in-7 c = rw (sym c.number-kind.ensures ∙ c.in-7.is, c.number-n.ensures)

pub returns-in_default : goal.returns-in_default
unfolding ground_at
returns-in_default c = let k = c.number-kind in
    let r = c.in_default.in_default-own.rest in
    rw (← k.ensures) (other-ground k.result c.args.f.now (climb k.result 7 (climb k.result 6 (climb k.result 5 (climb k.result 4 (climb k.result 3 (climb k.result 2 (climb k.result 1 (climb k.result 0 (omega arith) r.0.0.0.0.0.0.0.1) r.0.0.0.0.0.0.1) r.0.0.0.0.0.1) r.0.0.0.0.1) r.0.0.0.1) r.0.0.1) r.0.1) r.1))
