-- The periodic contract in the message table of 01, as L5 changed it: their lines stand above the definition.
use Rattle.per.specs.Codec.{Codec}
use Rattle.per.specs.Formats.{recast}
use Rattle.pdu_parts.specs.declared.periodic.Periodic.{Periodic}
use Rattle.pdu_parts.specs.Interval.{parts_c, of_parts, to_parts, elements_bad, default_form}
use Rattle.pdu_parts.specs.laws.Periodic.{periodic-left, periodic-other}

-- "Periodic contract: 8 presence bits (interval, default 5 minutes; five moduli 1..255 in the report's order; two not carried)";
-- a sender may send the five minutes, and "we still omit it"
unfoldable pub periodic_c : Codec Periodic
periodic_c = recast parts_c of_parts to_parts elements_bad default_form periodic-left periodic-other
