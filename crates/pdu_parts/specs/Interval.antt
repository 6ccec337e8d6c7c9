-- The message table of 01: intervals, and the parts of a periodic contract.
use Rattle.std.specs.Prelude.{ℕ, ◌+◌, ◌%◌, refl, Bool, true, false, ◌&&◌, List, [], ◌∷◌, eqb, leb}
use Rattle.per.specs.Bits.{of_bit}
use Rattle.per.specs.Codec.{Codec, unless}
use Rattle.per.specs.Formats.{pair, dep, when, num, mask, has, choice, Alt, Arm, arm, alt_of}
use Rattle.pdu_parts.specs.declared.interval.Interval.{Interval}
use Rattle.pdu_parts.specs.declared.interval.Interval.TheVariants.{Seconds, Minutes}
use Rattle.pdu_parts.specs.declared.periodic.Periodic.{Periodic}
use Rattle.refusals.specs.Refusals.{OUT-OF-RANGE}
use Rattle.pdu_parts.specs.Elements.{ADDRESS, PROFILE, GROUND-VECTOR, AIR-VECTOR, WEATHER, INTERVAL, REPORT-BITS, PERIODIC-BITS, PERIODIC-CARRIED}

-- "Interval: 1 bit, then seconds 1..59 (0) or minutes 1..120 (1)"
abbrev pub interval_tag : Interval → ℕ
interval_tag (Seconds n) = 0
interval_tag (Minutes n) = 1

abbrev pub interval_number : Interval → ℕ
interval_number (Seconds n) = n
interval_number (Minutes n) = n

abbrev pub interval_arms : List (Arm interval_tag)
interval_arms =
    arm 0 (num 1 59) Seconds interval_number (λ n. refl) (λ n. refl)
    ∷ arm 1 (num 1 120) Minutes interval_number (λ n. refl) (λ n. refl)
    ∷ []

abbrev pub interval_alt : (i : ℕ) → Alt interval_tag i
interval_alt i = alt_of interval_arms (Seconds 0) i

unfoldable pub interval_c : Codec Interval
interval_c = choice 1 interval_tag interval_alt

-- "An absent interval reads as its default"; "default 5 minutes"
abbrev pub five_minutes : Interval
five_minutes = Minutes 5

abbrev pub is_five : Interval → Bool
is_five (Seconds n) = false
is_five (Minutes n) = eqb n 5

-- the interval where its presence bit is set
unfoldable pub interval_if : Bool → Codec Interval
interval_if b = when b five_minutes interval_c

-- "five moduli 1..255 in the report's order", each where its presence bit of weight w is set
abbrev pub modulus : ℕ → ℕ → Codec ℕ
modulus w v = when (has w v) 0 (num 1 255)

abbrev pub Moduli : Type 0
Moduli = ℕ × (ℕ × (ℕ × (ℕ × ℕ)))

unfoldable pub moduli_c : ℕ → Codec Moduli
moduli_c v = pair (modulus ADDRESS v) (pair (modulus PROFILE v) (pair (modulus GROUND-VECTOR v) (pair (modulus AIR-VECTOR v) (modulus WEATHER v))))

-- "8 presence bits (interval, ..; five moduli ..; two not carried)"
abbrev pub periodic_bits : Codec ℕ
periodic_bits = mask PERIODIC-BITS PERIODIC-CARRIED false

abbrev pub periodic_rest : ℕ → Codec (Interval × Moduli)
periodic_rest v = pair (interval_if (has INTERVAL v)) (moduli_c v)

-- the parts as they were sent
abbrev pub Parts : Type 0
Parts = ℕ × (Interval × Moduli)

abbrev pub parts_c : Codec Parts
parts_c = dep periodic_bits periodic_rest

-- the presence bits that we send: that of the interval is set unless it is the default
unfoldable pub sent_bits : Bool → ℕ → ℕ
sent_bits true elements = elements
sent_bits false elements = 128 + elements

-- the contract that parts mean, the parts that we send of it, and what refuses that
abbrev pub of_parts : Parts → Periodic
of_parts p = record {
  interval = p.1.0;
  elements = p.0 % INTERVAL;
  address = p.1.1.0;
  profile = p.1.1.1.0;
  over_ground = p.1.1.1.1.0;
  air = p.1.1.1.1.1.0;
  weather = p.1.1.1.1.1.1;
}

abbrev pub to_parts : Periodic → Parts
to_parts a = (sent_bits (is_five a.interval) a.elements, (a.interval, (a.address, (a.profile, (a.over_ground, (a.air, a.weather))))))

abbrev pub elements_bad : Periodic → ℕ
elements_bad a = unless (leb a.elements REPORT-BITS) OUT-OF-RANGE

-- 1 where the default was sent
abbrev pub default_form : Parts → ℕ
default_form p = of_bit (has INTERVAL p.0 && is_five p.1.0)
