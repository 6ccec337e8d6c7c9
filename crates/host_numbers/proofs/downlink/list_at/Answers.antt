use native.Mathlib.Omega.{arith}
use Rattle.host_numbers.specs.DownlinkNumbers.{list_at}
use Rattle.host_numbers.proofs.Others.{four-or-five, below-four, over-five}
use Rattle.host_numbers.proofs.downlink.list_at.Goals as goal
use Rattle.host_numbers.proofs.downlink.list_at.Goals.{in_default-via-then-number-lt4, in_default-via-else-number-lt4+else-this-lt6}

pub returns-in-4 : goal.returns-in-4
unfolding list_at
returns-in-4 c = rw (c.listed_at.ensures, ← c.number.ensures) (four-or-five c.number.result _ _ (omega arith) (omega arith))

pub returns-in_default : goal.returns-in_default
unfolding list_at
returns-in_default c = rw (c.no_list.ensures, ← c.number.ensures)
    (elim c.in_default.branch [
      | in_default-via-then-number-lt4 w ↦ below-four c.number.result _ _ (omega arith)
      | in_default-via-else-number-lt4+else-this-lt6 w ↦ over-five c.number.result _ _ (omega arith)
    ])
