-- What reads back of an aircraft PDU: its parts, each as its own law says; a list only where the kind has one. Assumes nothing.
use mathlib.Core.Path.{◌≡◌, refl}
use mathlib.Core.Bool.{Bool, true, false, cond}
use lib.Dec.{eqb}
use Rattle.per.specs.Formats.{field, dep, via, absent, when, alt_codec, choice}
use Rattle.pdu_parts.specs.declared.lists.Listed.{Listed}
use Rattle.pdu_parts.specs.Reports.{report_c, emergency_report_c}
use Rattle.pdu_parts.specs.Lists.{entries_c, names_c, no_list}
use Rattle.pdu.specs.declared.downlink.Air.{Air}
use Rattle.pdu.specs.declared.downlink.Air.TheVariants.{CancelEmergency, Demand, Emergency, Event, Negative, Noncompliance, Periodic, Positive, Abort}
use Rattle.pdu.specs.declared.downlink.AirPdu.{AirPdu}
use Rattle.pdu_parts.specs.AirParts.{acked_c, acked_emergency_c, event_report_c, negative_c, entry_top, noncompliance_c}
use Rattle.pdu.specs.DownlinkTable.{bare_air, air_alt, air_c}

-- the PDU as it reads back
abbrev pub air_read : Air → Listed → AirPdu
air_read CancelEmergency l = bare_air CancelEmergency
air_read (Demand a) l = bare_air (Demand (record { ack = a.ack; report = report_c.norm a.report }))
air_read (Emergency a) l = bare_air (Emergency (record { ack = a.ack; report = emergency_report_c.norm a.report }))
air_read (Event a) l = bare_air (Event (record { ack = a.ack; event = a.event; report = report_c.norm a.report }))
air_read (Negative a) l = record { kind = Negative a; list = cond (eqb a.reason 2) (names_c.norm l) no_list }
air_read (Noncompliance n) l = record { kind = Noncompliance n; list = (entries_c (entry_top n)).norm l }
air_read (Periodic a) l = bare_air (Periodic (record { ack = a.ack; report = report_c.norm a.report }))
air_read (Positive n) l = bare_air (Positive n)
air_read (Abort n) l = bare_air (Abort n)

names-norm : (b : Bool) (l : Listed) → (when b no_list names_c).norm l ≡ cond b (names_c.norm l) no_list
unfolding when absent
names-norm true l = refl
names-norm false l = refl

pub air-norm : (kind : Air) (l : Listed) → air_c.norm (record { kind = kind; list = l }) ≡ air_read kind l
unfolding air_c air_alt acked_c acked_emergency_c event_report_c negative_c noncompliance_c choice alt_codec via dep field absent
air-norm CancelEmergency l = refl
air-norm (Demand a) l = refl
air-norm (Emergency a) l = refl
air-norm (Event a) l = refl
air-norm (Negative a) l = rw (names-norm (eqb a.reason 2) l)
air-norm (Noncompliance n) l = refl
air-norm (Periodic a) l = refl
air-norm (Positive n) l = refl
air-norm (Abort n) l = refl
