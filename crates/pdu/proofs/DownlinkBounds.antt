-- Aircraft PDUs have the writer's own form alone, and fit a sheet. Assumes nothing.
use Prim.Native.Nat.{ℕ, zero, suc}
use lib.Dec.{lit≤}
use Rattle.per.specs.Bits.{width, width_in}
use Rattle.per.specs.Codec.{Within}
use Rattle.per.specs.Formats.{flag_field, num_field}
use Rattle.per.proofs.Within.{forms, ◌then◌, all, each_arm}
use Rattle.per.proofs.Longest.{Most, up, a-field, a_pair, a-like, a-mark, a-null, a-when, an-alt, an-unused, a-choice, a-list}
use Rattle.pdu_parts.specs.Lists.{listed, entry_c, entries_c}
use Rattle.pdu_parts.proofs.ListBounds.{listed-own, names-most}
use Rattle.pdu_parts.proofs.ReportBounds.{report-own, emergency-own, report-most, emergency-most}
use Rattle.pdu_parts.specs.AirParts.{acked_c, acked_emergency_c, event_report_c, negative_c, entry_top, noncompliance_c}
use Rattle.pdu.specs.DownlinkTable.{air_arms, air_alt, air_c}

-- ---- one form
acked-own : (n : ℕ) → Within n acked_c
unfolding acked_c
acked-own n = search (forms, report-own) depth 12

acked-emergency-own : (n : ℕ) → Within n acked_emergency_c
unfolding acked_emergency_c
acked-emergency-own n = search (forms, emergency-own) depth 12

event-own : (n : ℕ) → Within n event_report_c
unfolding event_report_c
event-own n = search (forms, report-own) depth 12

negative-own : (n : ℕ) → Within n negative_c
unfolding negative_c
negative-own n = search (forms, listed-own) depth 12

noncompliance-own : (n : ℕ) → Within n noncompliance_c
unfolding noncompliance_c
noncompliance-own n = search (forms, listed-own) depth 12

air-each : (n i : ℕ) → Within n (air_alt i).codec
unfolding air_alt
air-each n =
    each_arm (λ c. Within n c) air_arms _
    (search forms
    then search (forms, acked-own)
    then search (forms, acked-emergency-own)
    then search (forms, event-own)
    then search (forms, negative-own)
    then search (forms, noncompliance-own)
    then search (forms, acked-own)
    then search forms
    then search forms
    then all)
    (search forms)

pub air-own : Within 0 air_c
unfolding air_c
air-own = search (forms, air-each)

-- ---- at most 916 bits, those of a negative ack with 16 names
acked-most : Most 265 acked_c
unfolding acked_c
acked-most = up (lit≤ tt) (a-like _ _ _ _ (a_pair _ (a-field flag_field) (λ a. report-most)))

acked-emergency-most : Most 170 acked_emergency_c
unfolding acked_emergency_c
acked-emergency-most = up (lit≤ tt) (a-like _ _ _ _ (a_pair _ (a-field flag_field) (λ a. emergency-most)))

event-most : Most 270 event_report_c
unfolding event_report_c width width_in
event-most = up (lit≤ tt) (a-like _ _ _ _ (a_pair _ (a-field flag_field) (λ a. a_pair _ (a-mark {n = 5} (lit≤ tt) (a-field (num_field 0 11))) (λ b. report-most))))

negative-most : Most 911 negative_c
unfolding negative_c width width_in
negative-most =
    up (lit≤ tt) (a-like _ _ _ _ (a_pair _ (a-mark {n = 4} (lit≤ tt) (a-field (num_field 0 7))) (λ a. a_pair _ (a-mark {n = 3} (lit≤ tt) (a-field (num_field 0 3))) (λ r. a-when _ _ names-most))))

entries-most : (kind : ℕ) → Most 88 (entries_c (entry_top kind))
unfolding listed entry_c width width_in
entries-most zero = up (lit≤ tt) (a-like _ _ _ _ (a-list 1 (a-mark {n = 5} (lit≤ tt) (a-field (num_field 0 6)))))
entries-most (suc zero) = up (lit≤ tt) (a-like _ _ _ _ (a-list 1 (a-mark {n = 5} (lit≤ tt) (a-field (num_field 0 10)))))
entries-most (suc (suc kind)) = up (lit≤ tt) (a-like _ _ _ _ (a-list 1 (a-mark {n = 5} (lit≤ tt) (a-field (num_field 0 7)))))

noncompliance-most : Most 90 noncompliance_c
unfolding noncompliance_c width width_in
noncompliance-most = up (lit≤ tt) (a_pair _ (a-field (num_field 0 2)) entries-most)

air-bits : (i : ℕ) → Most 911 (air_alt i).codec
unfolding air_alt width width_in
air-bits =
    each_arm (λ c. Most 911 c) air_arms _ (an-alt _ _ _ _ _ _ (a-null _ 911)
    then an-alt _ _ _ _ _ _ (a-mark (lit≤ tt) acked-most)
    then an-alt _ _ _ _ _ _ (a-mark (lit≤ tt) acked-emergency-most)
    then an-alt _ _ _ _ _ _ (a-mark (lit≤ tt) event-most)
    then an-alt _ _ _ _ _ _ negative-most
    then an-alt _ _ _ _ _ _ (a-mark (lit≤ tt) noncompliance-most)
    then an-alt _ _ _ _ _ _ (a-mark (lit≤ tt) acked-most)
    then an-alt _ _ _ _ _ _ (a-mark (lit≤ tt) (a-field (num_field 0 7)))
    then an-alt _ _ _ _ _ _ (a-mark (lit≤ tt) (a-field (num_field 0 7)))
    then all)
    (an-unused _ 911)

pub air-most : Most 916 air_c
unfolding air_c width width_in
air-most = a-mark (lit≤ tt) (a-choice _ _ _ air-bits)
