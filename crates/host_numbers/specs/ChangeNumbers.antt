-- An event contract as numbers: 1 presence bits; 9 lateral deviation, 10 vertical rate, 11 and 12 ceiling and floor; 13 which air speed, 14 its change; 15 ground speed,
-- 16 heading; 17 which measure of the extended profile, 18 how many; 19 track angle, 20 level. 2 to 8 are those of other kinds.
use Rattle.std.specs.Prelude.{List, [], ◌∷◌, ℕ, get_or}
use Rattle.pdu_events.specs.declared.changes.Changes.{Changes}
use Rattle.host_numbers.specs.Numbers.{twos, signed_of}
use Rattle.host_numbers.specs.Places.{G-WHAT, G-LATERAL, G-RATE, G-CEILING, G-FLOOR, G-AIR-SPEED, G-AIR-SPEED-CHANGE, G-GROUND-SPEED, G-HEADING, G-EXTENDED-PROFILE, G-EXTENDED-PROFILE-COUNT, G-TRACK, G-LEVEL}

abbrev pub flat_changes : Changes → List ℕ
flat_changes a =
    4 ∷ a.elements ∷ 0 ∷ 0 ∷ 0 ∷ 0 ∷ 0 ∷ 0 ∷ 0
    ∷ a.lateral ∷ twos a.rate.number ∷ twos a.range.ceiling.number ∷ twos a.range.floor.number
    ∷ a.air.kind ∷ a.air.number ∷ a.over_ground ∷ a.heading ∷ a.profile.kind ∷ a.profile.number ∷ a.track ∷ a.level ∷ []

-- and back. Numbers that are not there are 0
unfoldable pub changes_at : List ℕ → Changes
changes_at f =
    record {
      elements = get_or f G-WHAT 0;
      lateral = get_or f G-LATERAL 0;
      rate = signed_of (get_or f G-RATE 0);
      range = record { ceiling = signed_of (get_or f G-CEILING 0); floor = signed_of (get_or f G-FLOOR 0) };
      air = record { kind = get_or f G-AIR-SPEED 0; number = get_or f G-AIR-SPEED-CHANGE 0 };
      over_ground = get_or f G-GROUND-SPEED 0;
      heading = get_or f G-HEADING 0;
      profile = record { kind = get_or f G-EXTENDED-PROFILE 0; number = get_or f G-EXTENDED-PROFILE-COUNT 0 };
      track = get_or f G-TRACK 0;
      level = get_or f G-LEVEL 0;
    }
