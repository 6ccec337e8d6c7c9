-- "How many elements a contract asks for is the number of ones in its presence bits."
use Rattle.std.specs.Prelude.{ℕ, ◌+◌, ◌%◌, Bool, List, [], ◌∷◌}
use Rattle.per.specs.Bits.{of_bit, to_bits}
use Rattle.pdu_parts.specs.declared.periodic.Periodic.{Periodic}
use Rattle.pdu_parts.specs.Interval.{is_five, sent_bits}
use Rattle.pdu_parts.specs.Elements.{INTERVAL}

-- how many of some bits are 1
unfoldable pub trues : List Bool → ℕ
trues [] = 0
trues (b ∷ bs) = of_bit b + trues bs

-- the ones of presence bits that are held as a number
unfoldable pub ones_of : ℕ → ℕ
ones_of v = trues (to_bits 32 v)

-- those of the presence bits of a periodic contract as they are sent. Bits above the seven of a report are none: a value that has them is not written
unfoldable pub periodic_count : Periodic → ℕ
periodic_count a = ones_of (sent_bits (is_five a.interval) (a.elements % INTERVAL))
