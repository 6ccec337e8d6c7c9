-- A report's numbers are that report's again. A number with a sign is one that 32 bits hold, as every one in a declared value is.
use Rattle.std.specs.Prelude.{ℕ, ◌^◌, ◌<◌, ◌≡◌, Bool, true, false, List, ◌++◌, ltb, get_or, ℤ}
use Rattle.std.proofs.Math.Path.{refl}
use Rattle.std.proofs.Common.{ap, to_z-of_z}
use Rattle.std.specs.Int.Signed.{mag}
use mir.Syntax.{w32}
use Rattle.per.specs.declared.cursor.Signed.{Signed}
use Rattle.pdu_parts.specs.declared.report.Fix.{Fix}
use Rattle.pdu_parts.specs.declared.report.Report.{Report}
use Rattle.pdu_parts.specs.declared.vectors.GroundVector.{GroundVector}
use Rattle.pdu_parts.specs.declared.vectors.AirVector.{AirVector}
use Rattle.pdu_parts.specs.declared.vectors.Weather.{Weather}
use Rattle.host_numbers.specs.Numbers.{truth, number_by, bit_of, twos, signed_of}
use Rattle.host_numbers.specs.VectorNumbers.{flat_ground_vector, flat_air_vector, flat_weather, ground_vector_at, air_vector_at, weather_at}
use Rattle.host_numbers.specs.ReportNumbers.{fix_numbers, flat_report, accuracy_at, fix_at, report_at}

pub truth-bit : (b : Bool) → truth (bit_of b) ≡ b
unfolding truth
truth-bit true = refl
truth-bit false = refl

level-back : (z : ℤ) → mag z < 2 ^ 31 → signed_of (twos z) ≡ record { number = z }
unfolding signed_of twos
level-back z f = ap (λ (y : ℤ). record { number = y }) (to_z-of_z {w = w32} (record { sfits = f }))

-- a number with a sign is one that 32 bits hold
abbrev pub Holds : Signed → Type 0
Holds v = mag v.number < 2 ^ 31

pub signed_back : (v : Signed) → Holds v → signed_of (twos v.number) ≡ v
signed_back v f = level-back v.number f

bit-small : (b : Bool) → ltb (bit_of b) 2 ≡ true
bit-small true = refl
bit-small false = refl

-- what stands at a place, and what is made of several; `rest` are the numbers behind
module _ (kind : ℕ) (ack : Bool) (event elements : ℕ) (x : Fix) (address : ℕ) where
  abbrev list : List ℕ → List ℕ
  list rest = fix_numbers kind ack event elements x address ++ rest

  pub fix-back : (rest : List ℕ) → Holds x.position.level → fix_at (list rest) ≡ x
  unfolding fix_at fix_numbers number_by accuracy_at
  fix-back rest f =
      rw (bit-small x.position.latitude.minus, bit-small x.position.longitude.minus, bit-small x.time.has_seconds, bit-small x.merit.units, bit-small x.merit.avoidance)
      (rw (truth-bit x.position.latitude.minus, truth-bit x.position.longitude.minus, signed_back x.position.level f, truth-bit x.time.has_seconds, truth-bit x.merit.units, truth-bit x.merit.avoidance))

  pub kind-there : (rest : List ℕ) → get_or (list rest) 0 0 ≡ kind
  unfolding fix_numbers
  kind-there rest = refl

  pub ack-there : (rest : List ℕ) → truth (get_or (list rest) 1 0) ≡ ack
  unfolding fix_numbers
  ack-there rest = truth-bit ack

  pub event-there : (rest : List ℕ) → get_or (list rest) 2 0 ≡ event
  unfolding fix_numbers
  event-there rest = refl

  pub elements-there : (rest : List ℕ) → number_by (list rest) 1 4 ≡ elements
  unfolding fix_numbers number_by
  elements-there rest = rw (bit-small ack)

  pub address-there : (rest : List ℕ) → get_or (list rest) 24 0 ≡ address
  unfolding fix_numbers
  address-there rest = refl

  pub ground-there : (g : GroundVector) (rest : List ℕ) → Holds g.speed → Holds g.rate → ground_vector_at (list (flat_ground_vector g ++ rest)) ≡ g
  unfolding fix_numbers ground_vector_at
  ground-there g rest a b = rw (signed_back g.speed a, signed_back g.rate b)

  pub air-there : (g : GroundVector) (v : AirVector) (rest : List ℕ) → Holds v.rate → air_vector_at (list (flat_ground_vector g ++ (flat_air_vector v ++ rest))) ≡ v
  unfolding fix_numbers air_vector_at
  air-there g v rest a = rw (signed_back v.rate a)

  pub weather-there : (g : GroundVector) (v : AirVector) (w : Weather) → Holds w.temperature
      → weather_at (list (flat_ground_vector g ++ (flat_air_vector v ++ flat_weather w))) ≡ w
  unfolding fix_numbers weather_at
  weather-there g v w a = rw (signed_back w.temperature a)

-- the numbers with a sign of a report
pub record ReportHolds (r : Report) : Type 0 where
  pub level : Holds r.fix.position.level
  pub speed : Holds r.over_ground.speed
  pub rate : Holds r.over_ground.rate
  pub climb : Holds r.air.rate
  pub temperature : Holds r.weather.temperature

pub report-back : (kind : ℕ) (ack : Bool) (event : ℕ) (r : Report) → ReportHolds r → report_at (flat_report kind ack event r) ≡ r
unfolding report_at flat_report
report-back kind ack event r h =
    let g = r.over_ground in
    let v = r.air in
    let w = r.weather in
    let rest = flat_ground_vector g ++ (flat_air_vector v ++ flat_weather w) in
    rw (elements-there kind ack event r.elements r.fix r.address rest, fix-back kind ack event r.elements r.fix r.address rest h.level, address-there kind ack event r.elements r.fix r.address rest, ground-there kind ack event r.elements r.fix r.address g (flat_air_vector v ++ flat_weather w) h.speed h.rate, air-there kind ack event r.elements r.fix r.address g v (flat_weather w) h.climb, weather-there kind ack event r.elements r.fix r.address g v w h.temperature)
