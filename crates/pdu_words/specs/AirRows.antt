-- An aircraft PDU in words. Kinds: 0 cancel emergency, 1 demand report, 2 emergency report, 3 event report, 4 negative ack, 5 noncompliance, 6 periodic report,
-- 7 positive ack, 8 provider abort.
use Rattle.std.specs.Prelude.{List, [], ◌∷◌, ℕ, ◌+◌}
use Rattle.pdu_parts.specs.Elements.{ADDRESS, GROUND-VECTOR, AIR-VECTOR, WEATHER, EMERGENCY-ADDRESS, EMERGENCY-GROUND-VECTOR, TRACK, GROUND-SPEED, GROUND-RATE, HEADING, AIR-RATE, WIND-SPEED, WIND-DIRECTION, TEMPERATURE, TURBULENCE}
use Rattle.host_numbers.specs.Places.{A-WHAT, A-DETAIL, A-COUNT, A-ELEMENTS, A-SOUTH, A-LATITUDE, A-LATITUDE-MINUTES, A-LATITUDE-TENTHS, A-WEST, A-LONGITUDE, A-LONGITUDE-MINUTES, A-LONGITUDE-TENTHS, A-LEVEL, A-YEAR, A-MONTH, A-DAY, A-HAS-SECONDS, A-HOURS, A-MINUTES, A-SECONDS, A-ACCURACY, A-UNITS, A-AVOIDANCE, A-ADDRESS, A-GROUND-PARTS, A-TRACK, A-GROUND-SPEED, A-GROUND-RATE, A-AIR-PARTS, A-HEADING, A-AIR-SPEED, A-MACH, A-IAS, A-AIR-RATE, A-WEATHER-PARTS, A-WIND-SPEED, A-WIND-DIRECTION, A-TEMPERATURE, A-TURBULENCE}
use Rattle.pdu_words.specs.Names.{requests, reasons, events, elements, accuracies, abort_reasons, norths, easts, truths}
use Rattle.pdu_words.specs.Ways.{number, two, three, seconds, tens, octets, word, list, names, tenths, signed, thousandths, quarters}
use Rattle.pdu_words.specs.Rows.{only, every, always, has, is, isnt, bits, Row, row, say, rows_text}

-- the kinds that carry a report, and those whose report has seven presence bits
abbrev pub reports : ℕ
reports = only 1 + only 2 + only 3 + only 6

abbrev pub full_reports : ℕ
full_reports = only 1 + only 3 + only 6

-- the presence bits of a wind, which is one phrase where both are set
abbrev pub wind : ℕ
wind = WIND-SPEED + WIND-DIRECTION

-- reason 2 alone of a negative ack carries names; the sign of an angle is its hemisphere, so that minus zero shows; a part of a vector is there only with its vector;
-- a Mach number is there where it is not 0, an IAS where the air speed is of kind 1 or 2
unfoldable pub air_rows : List Row
air_rows =
    say every always "air: " ""
    ∷ say (only 0) always "cancel emergency" ""
    ∷ say (only 1) always "demand report" ""
    ∷ say (only 2) always "emergency report" ""
    ∷ row (only 3) always "event report: " (word events) A-DETAIL ""
    ∷ row (only 4) always "negative ack to " (word requests) A-WHAT ": "
    ∷ row (only 4) always "" (word reasons) A-DETAIL ""
    ∷ row (only 4) (is A-DETAIL 2) ", used by " number A-COUNT ""
    ∷ row (only 4) (is A-DETAIL 2) "" names A-COUNT ""
    ∷ say (only 5) (is A-WHAT 0) "noncompliance with " "demand contract"
    ∷ say (only 5) (is A-WHAT 1) "noncompliance with " "event contract"
    ∷ say (only 5) (is A-WHAT 2) "noncompliance with " "periodic contract"
    ∷ row (only 5) always ", " number A-COUNT " not met"
    ∷ row (only 5) (is A-WHAT 1) "" (list events) A-COUNT ""
    ∷ row (only 5) (isnt A-WHAT 1) "" (list elements) A-COUNT ""
    ∷ say (only 6) always "periodic report" ""
    ∷ row (only 7) always "positive ack to " (word requests) A-WHAT ""
    ∷ row (only 8) always "provider abort " number A-WHAT " ("
    ∷ row (only 8) always "" (word abort_reasons) A-WHAT ")"
    ∷ say reports (is A-WHAT 1) ", positive ack" ""
    ∷ row reports always ", " two A-LATITUDE " "
    ∷ row reports always "" two A-LATITUDE-MINUTES " "
    ∷ row reports always "" seconds A-LATITUDE-TENTHS " "
    ∷ row reports always "" (word norths) A-SOUTH ""
    ∷ row reports always ", " three A-LONGITUDE " "
    ∷ row reports always "" two A-LONGITUDE-MINUTES " "
    ∷ row reports always "" seconds A-LONGITUDE-TENTHS " "
    ∷ row reports always "" (word easts) A-WEST ""
    ∷ row reports always ", level " tens A-LEVEL " ft"
    ∷ row reports always ", " number A-YEAR "-"
    ∷ row reports always "" two A-MONTH "-"
    ∷ row reports always "" two A-DAY " "
    ∷ row reports always "" two A-HOURS ":"
    ∷ row reports always "" two A-MINUTES ""
    ∷ row reports (is A-HAS-SECONDS 1) ":" two A-SECONDS ""
    ∷ row reports always ", accuracy " number A-ACCURACY " ("
    ∷ row reports always "" (word accuracies) A-ACCURACY ")"
    ∷ row reports always ", multiple units " (word truths) A-UNITS ""
    ∷ row reports always ", acas " (word truths) A-AVOIDANCE ""
    ∷ row full_reports (has A-ELEMENTS ADDRESS) ", aircraft " octets A-ADDRESS ""
    ∷ row (only 2) (has A-ELEMENTS EMERGENCY-ADDRESS) ", aircraft " octets A-ADDRESS ""
    ∷ say full_reports (has A-ELEMENTS GROUND-VECTOR) ", " "ground vector"
    ∷ say (only 2) (has A-ELEMENTS EMERGENCY-GROUND-VECTOR) ", " "ground vector"
    ∷ row reports (has A-GROUND-PARTS TRACK) ", track " tenths A-TRACK ""
    ∷ row reports (has A-GROUND-PARTS GROUND-SPEED) ", ground speed " signed A-GROUND-SPEED " kt"
    ∷ row reports (has A-GROUND-PARTS GROUND-RATE) ", vertical rate " tens A-GROUND-RATE " ft/min"
    ∷ say full_reports (has A-ELEMENTS AIR-VECTOR) ", " "air vector"
    ∷ row full_reports (has A-AIR-PARTS HEADING) ", heading " tenths A-HEADING ""
    ∷ row full_reports (isnt A-MACH 0) ", mach " thousandths A-MACH ""
    ∷ row full_reports (isnt A-AIR-SPEED 0) ", ias " number A-IAS " kt"
    ∷ row full_reports (has A-AIR-PARTS AIR-RATE) ", vertical rate " tens A-AIR-RATE " ft/min"
    ∷ say full_reports (has A-ELEMENTS WEATHER) ", " "weather"
    ∷ row full_reports (has A-WEATHER-PARTS WIND-DIRECTION) ", wind " number A-WIND-DIRECTION ""
    ∷ row full_reports (bits A-WEATHER-PARTS wind wind) " at " number A-WIND-SPEED " kt"
    ∷ row full_reports (bits A-WEATHER-PARTS wind WIND-SPEED) ", wind speed " number A-WIND-SPEED " kt"
    ∷ row full_reports (has A-WEATHER-PARTS TEMPERATURE) ", temperature " quarters A-TEMPERATURE " C"
    ∷ row full_reports (has A-WEATHER-PARTS TURBULENCE) ", turbulence " number A-TURBULENCE ""
    ∷ []

unfoldable pub air_words : List ℕ → List ℕ → List ℕ
air_words f items = rows_text air_rows f items
