-- The message table, the event contract: 02's line for L7, "Carry all eleven event contract elements, with the ranges and inner choices of 002", with 002's module.
use Rattle.std.specs.Prelude.{refl, true, cond, ℕ, eqb}
use Rattle.per.specs.Codec.{Codec}
use Rattle.per.specs.Formats.{dep, pair, iso, when, num, signed, mask, has, index}
use Rattle.pdu_parts.specs.Vectors.{none, num_at, rate_at}
use Rattle.pdu_events.specs.declared.changes.LevelRange.{LevelRange}
use Rattle.pdu_events.specs.declared.changes.Either.{Either}
use Rattle.pdu_events.specs.declared.changes.Changes.{Changes}
use Rattle.pdu_events.specs.Elements.{LATERAL-CHANGE, RATE-CHANGE, LEVEL-RANGE, AIR-SPEED-CHANGE, GROUND-SPEED-CHANGE, HEADING-CHANGE, PROFILE-CHANGE, TRACK-CHANGE, LEVEL-CHANGE, EVENT-BITS}

-- "LevelRange ::= SEQUENCE {ceiling Level, floor Level}", no extension bit (002, 4189); "Level ::= INTEGER(-75..10000)" (002, 4442). No rule says which is higher
unfoldable pub level_range_c : Codec LevelRange
level_range_c =
    iso (pair (signed 75 10000) (signed 75 10000))
    (λ p. record { ceiling = p.0; floor = p.1 })
    (λ a. (a.ceiling, a.floor))
    (λ p. refl)

-- a choice of two numbers, no extension bit: one bit, then 1..first (0) or 1..second (1)
unfoldable pub either_c : ℕ → ℕ → Codec Either
either_c first second =
    iso (dep (index 1) (λ kind. num 1 (cond (eqb kind 0) first second)))
    (λ p. record { kind = p.0; number = p.1 })
    (λ a. (a.kind, a.number))
    (λ p. refl)

-- what an element that is absent reads as
abbrev pub no_range : LevelRange
no_range = record { ceiling = none; floor = none }

abbrev pub no_either : Either
no_either = record { kind = 0; number = 0 }

-- "AirSpeedChange ::= CHOICE {mach-number-change [0] INTEGER (1..255), ias-change [1] INTEGER (1..700)}" (002, 4177)
abbrev pub air_speed_at : ℕ → Codec Either
air_speed_at v = when (has AIR-SPEED-CHANGE v) no_either (either_c 255 700)

-- "ExtendedProjectedProfileRequest ::= CHOICE {time-interval [0] INTEGER (1..80), number-of-way-points [1] INTEGER (1..128)}" (002, 4210)
abbrev pub profile_at : ℕ → Codec Either
profile_at v = when (has PROFILE-CHANGE v) no_either (either_c 80 128)

-- "EventContract ::= SEQUENCE": eleven presence bits, at least one set; lateral deviation 0..2000, vertical rate -3000..3000, level range, way point NULL, air speed,
-- ground speed 0..300, heading 1..3600, extended profile, figure of merit NULL, track angle 1..3600, level 1..500 (002, 3880; 4186, 4195, 4222, 4234, 4277)
unfoldable pub changes_c : Codec Changes
changes_c =
    iso (dep (mask EVENT-BITS EVENT-BITS true)
    (λ v. pair (num_at LATERAL-CHANGE v 0 2000) (pair (rate_at RATE-CHANGE v) (pair (when (has LEVEL-RANGE v) no_range level_range_c) (pair (air_speed_at v) (pair (num_at GROUND-SPEED-CHANGE v 0 300)
    (pair (num_at HEADING-CHANGE v 1 3600) (pair (profile_at v) (pair (num_at TRACK-CHANGE v 1 3600) (num_at LEVEL-CHANGE v 1 500))))))))))
    (λ p. record {
      elements = p.0;
      lateral = p.1.0;
      rate = p.1.1.0;
      range = p.1.1.1.0;
      air = p.1.1.1.1.0;
      over_ground = p.1.1.1.1.1.0;
      heading = p.1.1.1.1.1.1.0;
      profile = p.1.1.1.1.1.1.1.0;
      track = p.1.1.1.1.1.1.1.1.0;
      level = p.1.1.1.1.1.1.1.1.1;
    })
    (λ a. (a.elements, (a.lateral, (a.rate, (a.range, (a.air, (a.over_ground, (a.heading, (a.profile, (a.track, a.level))))))))))
    (λ p. refl)

-- an event contract with nothing in it, which is not written
abbrev pub no_changes : Changes
no_changes = record { elements = 0; lateral = 0; rate = none; range = no_range; air = no_either; over_ground = 0; heading = 0; profile = no_either; track = 0; level = 0 }
