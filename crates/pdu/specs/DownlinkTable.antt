-- The message table of 01, aircraft PDUs.
use Rattle.std.specs.Prelude.{ℕ, refl, List, [], ◌∷◌}
use Rattle.per.specs.Codec.{Codec}
use Rattle.per.specs.Formats.{null, num, ext, choice, Alt, Arm, arm, alt_of}
use Rattle.pdu_parts.specs.Lists.{no_list}
use Rattle.pdu.specs.declared.downlink.Air.{Air}
use Rattle.pdu.specs.declared.downlink.Air.TheVariants.{CancelEmergency, Demand, Emergency, Event, Negative, Noncompliance, Periodic, Positive, Abort}
use Rattle.pdu.specs.declared.downlink.AirPdu.{AirPdu}
use Rattle.pdu_parts.specs.AirParts.{acked_c, acked_emergency_c, event_report_c, negative_c, noncompliance_c}
use Rattle.pdu.specs.Contents.{report_of, emergency_of, event_of, negative_of, number_of}

-- the index of a PDU
abbrev pub kind_tag : Air → ℕ
kind_tag CancelEmergency = 0
kind_tag (Demand a) = 1
kind_tag (Emergency a) = 2
kind_tag (Event a) = 3
kind_tag (Negative a) = 4
kind_tag (Noncompliance n) = 5
kind_tag (Periodic a) = 6
kind_tag (Positive n) = 7
kind_tag (Abort n) = 8

abbrev pub air_tag : AirPdu → ℕ
air_tag a = kind_tag a.kind

abbrev pub bare_air : Air → AirPdu
bare_air kind = record { kind = kind; list = no_list }

-- 0 cancel-emergency NULL; 1 demand report*; 2 emergency*; 3 event report*; 4 negative ack; 5 noncompliance*; 6 periodic report*;
-- 7 positive ack: request type*, 0..7; 8 provider abort: reason*, 0..7
abbrev pub air_arms : List (Arm air_tag)
air_arms =
    arm 0 null (λ u. bare_air CancelEmergency) (λ a. record {}) (λ p. refl) (λ p. refl)
    ∷ arm 1 (ext acked_c) (λ p. bare_air (Demand p)) (λ a. report_of a.kind) (λ p. refl) (λ p. refl)
    ∷ arm 2 (ext acked_emergency_c) (λ p. bare_air (Emergency p)) (λ a. emergency_of a.kind) (λ p. refl) (λ p. refl)
    ∷ arm 3 (ext event_report_c) (λ p. bare_air (Event p)) (λ a. event_of a.kind) (λ p. refl) (λ p. refl)
    ∷ arm 4 negative_c (λ p. record { kind = Negative p.0; list = p.1 }) (λ a. (negative_of a.kind, a.list)) (λ p. refl) (λ p. refl)
    ∷ arm 5 (ext noncompliance_c) (λ p. record { kind = Noncompliance p.0; list = p.1 }) (λ a. (number_of a.kind, a.list)) (λ p. refl) (λ p. refl)
    ∷ arm 6 (ext acked_c) (λ p. bare_air (Periodic p)) (λ a. report_of a.kind) (λ p. refl) (λ p. refl)
    ∷ arm 7 (ext (num 0 7)) (λ n. bare_air (Positive n)) (λ a. number_of a.kind) (λ p. refl) (λ p. refl)
    ∷ arm 8 (ext (num 0 7)) (λ n. bare_air (Abort n)) (λ a. number_of a.kind) (λ p. refl) (λ p. refl)
    ∷ []

unfoldable pub air_alt : (i : ℕ) → Alt air_tag i
air_alt i = alt_of air_arms (bare_air CancelEmergency) i

-- "Aircraft PDU*, 4-bit index"
unfoldable pub air_c : Codec AirPdu
air_c = ext (choice 8 air_tag air_alt)
