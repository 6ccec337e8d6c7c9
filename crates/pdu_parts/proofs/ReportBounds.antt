-- The parts of reports have the writer's own form alone, and are at most so long. Assumes nothing.
use Prim.Native.Nat.{ℕ, ◌+◌, ◌-◌}
use lib.Dec.{lit≤}
use Rattle.per.specs.Bits.{width, width_in}
use Rattle.per.specs.Codec.{Within}
use Rattle.per.specs.Formats.{flag_field, num_field, signed_field}
use Rattle.per.proofs.Within.{forms}
use Rattle.per.proofs.Longest.{Most, up, a-field, a_pair, a-like, a-mark, an-only, a-when}
use Rattle.pdu_parts.specs.Vectors.{ground_vector_c, air_speed_c, air_vector_c, weather_c}
use Rattle.pdu_parts.specs.Reports.{angle_c, position_c, time_c, merit_c, fix_c, address, report_c, emergency_report_c}

-- ---- one form
angle-own : (n top : ℕ) → Within n (angle_c top)
unfolding angle_c
angle-own n top = search forms depth 12

position-own : (n : ℕ) → Within n position_c
unfolding position_c
position-own n = search (forms, angle-own) depth 12

time-own : (n : ℕ) → Within n time_c
unfolding time_c
time-own n = search forms depth 16

merit-own : (n : ℕ) → Within n merit_c
unfolding merit_c
merit-own n = search forms depth 12

fix-own : (n : ℕ) → Within n fix_c
unfolding fix_c
fix-own n = search (forms, position-own, time-own, merit-own) depth 12

ground-vector-own : (n : ℕ) → Within n ground_vector_c
unfolding ground_vector_c
ground-vector-own n = search forms depth 16

air-speed-own : (n : ℕ) → Within n air_speed_c
unfolding air_speed_c
air-speed-own n = search forms depth 16

air-vector-own : (n : ℕ) → Within n air_vector_c
unfolding air_vector_c
air-vector-own n = search (forms, air-speed-own) depth 16

weather-own : (n : ℕ) → Within n weather_c
unfolding weather_c
weather-own n = search forms depth 16

pub report-own : (n : ℕ) → Within n report_c
unfolding report_c
report-own n = search (forms, fix-own, ground-vector-own, air-vector-own, weather-own) depth 20

pub emergency-own : (n : ℕ) → Within n emergency_report_c
unfolding emergency_report_c
emergency-own n = search (forms, fix-own, ground-vector-own) depth 16

-- ---- how long
position-most : Most 63 position_c
unfolding position_c angle_c width width_in
position-most =
    up (lit≤ tt) (a-like _ _ _ _ (a_pair _ (angle 90) (λ a. a_pair _ (angle 180) (λ b. a-field (signed_field 75 10000)))))
  where
    angle : (top : ℕ) → Most (1 + (width (top - 0) + (6 + 10))) (angle_c top)
    angle top = a-like _ _ _ _ (a_pair _ (a-field flag_field) (λ a. a_pair _ (a-field (num_field 0 top)) (λ b. a_pair _ (a-field (num_field 0 59)) (λ c. a-field (num_field 0 599)))))

time-most : Most 35 time_c
unfolding time_c width width_in
time-most =
    up (lit≤ tt) (a-like _ _ _ _ (a_pair _ (a-field (num_field 1996 2095)) (λ a. a_pair _ (a-field (num_field 1 12)) (λ b. a_pair _ (a-field (num_field 1 31))
    (λ c. a_pair _ (a-field flag_field) (λ d. a_pair _ (a-field (num_field 0 23)) (λ e. a_pair _ (a-field (num_field 0 59)) (λ f. a-when _ _ (a-field (num_field 0 59))))))))))

merit-most : Most 5 merit_c
unfolding merit_c width width_in
merit-most = up (lit≤ tt) (a-like _ _ _ _ (a_pair _ (a-field (num_field 0 7)) (λ a. a_pair _ (a-field flag_field) (λ b. a-field flag_field))))

fix-most : Most 103 fix_c
unfolding fix_c
fix-most = up (lit≤ tt) (a-like _ _ _ _ (a_pair _ position-most (λ a. a_pair _ time-most (λ b. merit-most))))

address-most : (w v : ℕ) → Most 24 (address w v)
unfolding width width_in
address-most w v = up (lit≤ tt) (a-when _ _ (a-field (num_field 0 16777215)))

ground-vector-most : Most 40 ground_vector_c
unfolding ground_vector_c width width_in
ground-vector-most =
    up (lit≤ tt) (a-like _ _ _ _ (a_pair _ (an-only _ (a-field (num_field 0 7))) (λ v. a_pair _ (a-when _ _ (a-field (num_field 1 3600)))
    (λ a. a_pair _ (a-when _ _ (a-field (signed_field 50 2200))) (λ b. a-when _ _ (a-field (signed_field 3000 3000)))))))

air-speed-most : Most 25 air_speed_c
unfolding air_speed_c width width_in
air-speed-most =
    up (lit≤ tt) (a-like _ _ _ _ (a_pair _ (a-field (num_field 0 2)) (λ k. a_pair _ (a-when _ _ (a-field (num_field 500 4000))) (λ a. a-when _ _ (a-field (num_field 0 1100))))))

air-vector-most : Most 53 air_vector_c
unfolding air_vector_c width width_in
air-vector-most =
    up (lit≤ tt) (a-like _ _ _ _ (a_pair _ (an-only _ (a-field (num_field 0 7))) (λ v. a_pair _ (a-when _ _ (a-field (num_field 1 3600)))
    (λ a. a_pair _ (a-when _ _ air-speed-most) (λ b. a-when _ _ (a-field (signed_field 3000 3000)))))))

weather-most : Most 36 weather_c
unfolding weather_c width width_in
weather-most =
    up (lit≤ tt) (a-like _ _ _ _ (a_pair _ (an-only _ (a-field (num_field 0 15))) (λ v. a_pair _ (a-when _ _ (a-field (num_field 0 300)))
    (λ a. a_pair _ (a-when _ _ (a-field (num_field 1 360))) (λ b. a_pair _ (a-when _ _ (a-field (signed_field 400 400))) (λ c. a-when _ _ (a-field (num_field 0 15))))))))

pub report-most : Most 264 report_c
unfolding report_c width width_in
report-most =
    a-like _ _ _ _ (a-mark (lit≤ tt) (a_pair _ (an-only _ (a-field (num_field 0 127))) (λ v. a_pair _ fix-most (λ f. a_pair _ (address-most 64 v)
    (λ a. a_pair _ (a-when _ _ ground-vector-most) (λ b. a_pair _ (a-when _ _ air-vector-most) (λ c. a-when _ _ weather-most)))))))

pub emergency-most : Most 169 emergency_report_c
unfolding emergency_report_c width width_in
emergency-most =
    up (lit≤ tt) (a-like _ _ _ _ (a_pair _ (an-only _ (a-field (num_field 0 3))) (λ v. a_pair _ fix-most (λ f. a_pair _ (address-most 2 v) (λ a. a-when _ _ ground-vector-most)))))
