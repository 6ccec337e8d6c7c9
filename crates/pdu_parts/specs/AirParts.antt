-- The message table of 01, the parts of aircraft PDUs: 01's line stands above each definition.
use Rattle.std.specs.Prelude.{ℕ, zero, suc, refl, eqb}
use Rattle.per.specs.Codec.{Codec}
use Rattle.per.specs.Formats.{dep, pair, iso, when, num, flag, ext, index}
use Rattle.pdu_parts.specs.declared.lists.Listed.{Listed}
use Rattle.pdu_parts.specs.Reports.{report_c, emergency_report_c}
use Rattle.pdu_parts.specs.Lists.{entries_c, names_c, no_list}
use Rattle.pdu_parts.specs.declared.acked.AckedReport.{AckedReport}
use Rattle.pdu_parts.specs.declared.acked.AckedEmergency.{AckedEmergency}
use Rattle.pdu_parts.specs.declared.acked.EventReport.{EventReport}
use Rattle.pdu_parts.specs.declared.acks.NegativeAck.{NegativeAck}

-- "Indexes 1, 2, 6: a presence bit for the positive ack (NULL), then the report"
unfoldable pub acked_c : Codec AckedReport
acked_c = iso (pair flag report_c) (λ p. record { ack = p.0; report = p.1 }) (λ a. (a.ack, a.report)) (λ p. refl)

unfoldable pub acked_emergency_c : Codec AckedEmergency
acked_emergency_c = iso (pair flag emergency_report_c) (λ p. record { ack = p.0; report = p.1 }) (λ a. (a.ack, a.report)) (λ p. refl)

-- "Index 3: that presence bit, event type* 0..11, report"
unfoldable pub event_report_c : Codec EventReport
event_report_c =
    iso (pair flag (pair (ext (num 0 11)) report_c))
    (λ p. record { ack = p.0; event = p.1.0; report = p.1.1 })
    (λ a. (a.ack, (a.event, a.report)))
    (λ p. refl)

-- "Request type*, 0..7"; "negative ack is one and then reason* 0..3; reason 2 carries a list of names of eight 7-bit characters"
unfoldable pub negative_c : Codec (NegativeAck × Listed)
negative_c =
    iso (pair (ext (num 0 7)) (dep (ext (num 0 3)) (λ reason. when (eqb reason 2) no_list names_c)))
    (λ p. (record { request = p.0; reason = p.1.0 }, p.1.1))
    (λ a. (a.0.request, (a.0.reason, a.1)))
    (λ p. refl)

-- "Noncompliance index 0..2: lists of report type* 0..6, event type* 0..10, report type and period* 0..7"
abbrev pub entry_top : ℕ → ℕ
entry_top zero = 6
entry_top (suc zero) = 10
entry_top (suc (suc n)) = 7

unfoldable pub noncompliance_c : Codec (ℕ × Listed)
noncompliance_c = dep (index 2) (λ kind. entries_c (entry_top kind))
