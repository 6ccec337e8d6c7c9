-- P1 to P13 under a single claim: each reads as the table says, and each value is accepted and written as the table says. Assumes nothing.
use mathlib.Core.Path.{◌≡◌, refl}
use Rattle.per.specs.Bits.{of_bit, to_bit, to_bits, num_at, bits_of, width_in, width}
use Rattle.per.specs.Formats.{field, dep, via, recast, only, absent, when, has, alt_codec, never_codec, choice, vec, list16}
use Rattle.per.specs.Pdu.{pack, encode, window, start, finish, read_pdu}
use Rattle.per.specs.Writing.{write_pdu}
use Rattle.pdu_events.specs.Changes.{level_range_c, either_c, changes_c}
use Rattle.pdu_parts.specs.Reports.{angle_c, position_c, time_c, merit_c, fix_c, report_c, emergency_report_c}
use Rattle.pdu_parts.specs.Lists.{listed, entry_c}
use Rattle.pdu_parts.specs.Interval.{interval_c, interval_if, moduli_c, sent_bits}
use Rattle.pdu_parts.specs.Periodic.{periodic_c}
use Rattle.pdu.specs.UplinkTable.{ground_alt, ground_c}
use Rattle.pdu_parts.specs.AirParts.{acked_c, acked_emergency_c, event_report_c, negative_c, noncompliance_c}
use Rattle.pdu.specs.DownlinkTable.{air_alt, air_c}
use Rattle.pdu.specs.Examples.{examples, reread, rewritten, all}

pub examples-hold : (all reread examples ≡ examples) × (all rewritten examples ≡ examples)
unfolding all reread rewritten read_pdu write_pdu encode pack window start finish bits_of to_bits num_at of_bit to_bit width width_in field dep via recast only absent when has alt_codec never_codec choice vec list16 angle_c position_c time_c merit_c fix_c report_c emergency_report_c listed entry_c interval_c interval_if moduli_c sent_bits periodic_c level_range_c either_c changes_c ground_alt ground_c acked_c acked_emergency_c event_report_c negative_c noncompliance_c air_alt air_c
examples-hold = (refl, refl)
