-- What reads back of an event contract: everything but what is absent, which reads as 0. Its numbers with a sign are of -10000 to 10000. Assumes nothing.
use Prim.Native.Nat.{ℕ}
use mathlib.Core.Path.{◌≡◌, refl}
use mathlib.Core.Bool.{Bool, true, false, cond}
use lib.Dec.{lit≤}
use Rattle.per.specs.Codec.{first}
use Rattle.per.specs.Field.{raised_chk}
use Rattle.per.specs.Formats.{field, dep, via, only, absent, when, has, mask}
use Rattle.per.specs.laws.Codec.{first-0, first-1}
use Rattle.pdu_parts.specs.Vectors.{none, num_at, rate_at}
use Rattle.pdu_parts.proofs.ReportNorms.{when-norm, signed-norm}
use Rattle.pdu_parts.proofs.ReportSigns.{Small, raised-small, signed-small}
use Rattle.pdu_events.specs.declared.changes.LevelRange.{LevelRange}
use Rattle.pdu_events.specs.declared.changes.Either.{Either}
use Rattle.pdu_events.specs.declared.changes.Changes.{Changes}
use Rattle.pdu_events.specs.Elements.{LATERAL-CHANGE, RATE-CHANGE, LEVEL-RANGE, AIR-SPEED-CHANGE, GROUND-SPEED-CHANGE, HEADING-CHANGE, PROFILE-CHANGE, TRACK-CHANGE, LEVEL-CHANGE, EVENT-BITS}
use Rattle.pdu_events.specs.Changes.{level_range_c, no_range, either_c, no_either, air_speed_at, profile_at, changes_c}

range-there : (b : Bool) (a : LevelRange) → (when b no_range level_range_c).norm a ≡ cond b a no_range
unfolding when absent level_range_c via dep field
range-there true a = refl
range-there false a = refl

either-there : (b : Bool) (first second : ℕ) (a : Either) → (when b no_either (either_c first second)).norm a ≡ cond b a no_either
unfolding when absent either_c via dep field
either-there true first second a = refl
either-there false first second a = refl

abbrev pub changes_read : Changes → Changes
changes_read a = record {
  elements = a.elements;
  lateral = cond (has LATERAL-CHANGE a.elements) a.lateral 0;
  rate = cond (has RATE-CHANGE a.elements) a.rate none;
  range = cond (has LEVEL-RANGE a.elements) a.range no_range;
  air = cond (has AIR-SPEED-CHANGE a.elements) a.air no_either;
  over_ground = cond (has GROUND-SPEED-CHANGE a.elements) a.over_ground 0;
  heading = cond (has HEADING-CHANGE a.elements) a.heading 0;
  profile = cond (has PROFILE-CHANGE a.elements) a.profile no_either;
  track = cond (has TRACK-CHANGE a.elements) a.track 0;
  level = cond (has LEVEL-CHANGE a.elements) a.level 0;
}

pub changes-norm : (a : Changes) → changes_c.norm a ≡ changes_read a
unfolding changes_c via dep only field
changes-norm a =
    let v = a.elements in
    rw (
      when-norm (has LATERAL-CHANGE v) 0 2000 a.lateral,
      signed-norm (has RATE-CHANGE v) 3000 3000 a.rate,
      range-there (has LEVEL-RANGE v) a.range,
      either-there (has AIR-SPEED-CHANGE v) 255 700 a.air,
      when-norm (has GROUND-SPEED-CHANGE v) 0 300 a.over_ground,
      when-norm (has HEADING-CHANGE v) 1 3600 a.heading,
      either-there (has PROFILE-CHANGE v) 80 128 a.profile,
      when-norm (has TRACK-CHANGE v) 1 3600 a.track,
      when-norm (has LEVEL-CHANGE v) 1 500 a.level,
    )

-- ---- the numbers with a sign, as they read back
abbrev pub RangeSmall : LevelRange → Type 0
RangeSmall a = Small a.ceiling × Small a.floor

range_small : (p : Bool) (a : LevelRange) → (when p no_range level_range_c).chk a ≡ 0 → RangeSmall ((when p no_range level_range_c).norm a)
unfolding when absent level_range_c via dep field
range_small false a h = (lit≤ tt, lit≤ tt)
range_small true a h =
    let top = raised_chk 75 10000 a.ceiling.number in
    let low = raised_chk 75 10000 a.floor.number in
    (raised-small 75 10000 a.ceiling.number (lit≤ tt) (lit≤ tt) (first-0 top low h), raised-small 75 10000 a.floor.number (lit≤ tt) (lit≤ tt) (first-1 top low h))

pub record ChangesSmall (a : Changes) : Type 0 where
  pub rate : Small a.rate
  pub range : RangeSmall a.range

pub changes-small : (a : Changes) → changes_c.chk a ≡ 0 → ChangesSmall (changes_c.norm a)
unfolding changes_c via dep only field
changes-small a h =
    let v = a.elements in
    let lateral = (num_at LATERAL-CHANGE v 0 2000).chk a.lateral in
    let rate = (rate_at RATE-CHANGE v).chk a.rate in
    let range = (when (has LEVEL-RANGE v) no_range level_range_c).chk a.range in
    let turn = first ((profile_at v).chk a.profile) (first ((num_at TRACK-CHANGE v 1 3600).chk a.track) ((num_at LEVEL-CHANGE v 1 500).chk a.level)) in
    let more = first ((air_speed_at v).chk a.air) (first ((num_at GROUND-SPEED-CHANGE v 0 300).chk a.over_ground) (first ((num_at HEADING-CHANGE v 1 3600).chk a.heading) turn)) in
    let after-mask = first-1 ((mask EVENT-BITS EVENT-BITS true).chk v) (first lateral (first rate (first range more))) h in
    let after-lateral = first-1 lateral (first rate (first range more)) after-mask in
    record {
      rate = signed-small (has RATE-CHANGE v) 3000 3000 a.rate (lit≤ tt) (lit≤ tt) (first-0 rate (first range more) after-lateral);
      range = range_small (has LEVEL-RANGE v) a.range (first-0 range more (first-1 rate (first range more) after-lateral));
    }
