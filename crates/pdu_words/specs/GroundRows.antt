-- A ground PDU in words. Kinds: 0 cancel all contracts, 1 cancel contract, 2 cancel emergency ack, 3 demand contract, 4 event contract, 5 modify emergency contract,
-- 6 periodic contract, 7 provider abort. A PDU is called what an ack calls it.
use Rattle.std.specs.Prelude.{List, [], ◌∷◌, ℕ, ◌+◌}
use Rattle.pdu_parts.specs.Elements.{ADDRESS, PROFILE, GROUND-VECTOR, AIR-VECTOR, WEATHER}
use Rattle.pdu_events.specs.Elements.{LATERAL-CHANGE, RATE-CHANGE, LEVEL-RANGE, WAYPOINT-CHANGE, AIR-SPEED-CHANGE, GROUND-SPEED-CHANGE, HEADING-CHANGE, PROFILE-CHANGE, MERIT-CHANGE, TRACK-CHANGE, LEVEL-CHANGE}
use Rattle.host_numbers.specs.Places.{G-WHAT, G-SCALE, G-INTERVAL, G-ADDRESS, G-PROFILE, G-GROUND-VECTOR, G-AIR-VECTOR, G-WEATHER, G-LATERAL, G-RATE, G-CEILING, G-FLOOR, G-AIR-SPEED, G-AIR-SPEED-CHANGE, G-GROUND-SPEED, G-HEADING, G-EXTENDED-PROFILE, G-EXTENDED-PROFILE-COUNT, G-TRACK, G-LEVEL}
use Rattle.pdu_words.specs.Names.{abort_reasons, scales}
use Rattle.pdu_words.specs.Ways.{number, nth, word, tenths, tens, mach_steps, time_steps}
use Rattle.pdu_words.specs.Rows.{only, every, always, has, is, isnt, Row, row, say, rows_text}

-- the kinds that have an interval, and those that ask for elements of a report
abbrev pub intervals : ℕ
intervals = only 5 + only 6

abbrev pub contracts : ℕ
contracts = only 3 + only 6

-- of an event contract without an air speed or a profile both numbers of it are 0, and no steps are not shown
unfoldable pub ground_rows : List Row
ground_rows =
    say every always "ground: " ""
    ∷ say (only 0) always "cancel all contracts" ""
    ∷ say (only 1) (is G-WHAT 0) "cancel event contract" ""
    ∷ say (only 1) (is G-WHAT 1) "cancel periodic contract" ""
    ∷ say (only 2) always "cancel emergency ack" ""
    ∷ say (only 3) always "demand contract" ""
    ∷ say (only 4) always "event contract" ""
    ∷ say (only 5) always "modify emergency contract" ""
    ∷ say (only 6) always "periodic contract" ""
    ∷ row (only 7) always "provider abort " number G-WHAT " ("
    ∷ row (only 7) always "" (word abort_reasons) G-WHAT ")"
    ∷ row intervals always " every " number G-INTERVAL " "
    ∷ row intervals always "" (word scales) G-SCALE ""
    ∷ say intervals (isnt G-INTERVAL 1) "s" ""
    ∷ say (only 4) (has G-WHAT LATERAL-CHANGE) ", " "lateral deviation change"
    ∷ row (only 4) (has G-WHAT LATERAL-CHANGE) " " tenths G-LATERAL " nm"
    ∷ say (only 4) (has G-WHAT RATE-CHANGE) ", " "vertical rate change"
    ∷ row (only 4) (has G-WHAT RATE-CHANGE) " " tens G-RATE " ft/min"
    ∷ row (only 4) (has G-WHAT LEVEL-RANGE) ", level range, ceiling " tens G-CEILING " ft"
    ∷ row (only 4) (has G-WHAT LEVEL-RANGE) ", floor " tens G-FLOOR " ft"
    ∷ say (only 4) (has G-WHAT WAYPOINT-CHANGE) ", " "waypoint change"
    ∷ say (only 4) (has G-WHAT AIR-SPEED-CHANGE) ", " "air speed change"
    ∷ row (only 4) (is G-AIR-SPEED 0) "" mach_steps G-AIR-SPEED-CHANGE ""
    ∷ row (only 4) (is G-AIR-SPEED 1) ", ias " number G-AIR-SPEED-CHANGE " kt"
    ∷ say (only 4) (has G-WHAT GROUND-SPEED-CHANGE) ", " "ground speed change"
    ∷ row (only 4) (has G-WHAT GROUND-SPEED-CHANGE) " " number G-GROUND-SPEED " kt"
    ∷ say (only 4) (has G-WHAT HEADING-CHANGE) ", " "heading change"
    ∷ row (only 4) (has G-WHAT HEADING-CHANGE) " " tenths G-HEADING " degrees"
    ∷ say (only 4) (has G-WHAT PROFILE-CHANGE) ", " "extended projected profile change"
    ∷ row (only 4) (is G-EXTENDED-PROFILE 0) "" time_steps G-EXTENDED-PROFILE-COUNT ""
    ∷ row (only 4) (is G-EXTENDED-PROFILE 1) ", waypoints " number G-EXTENDED-PROFILE-COUNT ""
    ∷ say (only 4) (has G-WHAT MERIT-CHANGE) ", " "figure of merit change"
    ∷ say (only 4) (has G-WHAT TRACK-CHANGE) ", " "track angle change"
    ∷ row (only 4) (has G-WHAT TRACK-CHANGE) " " tenths G-TRACK " degrees"
    ∷ say (only 4) (has G-WHAT LEVEL-CHANGE) ", " "level change"
    ∷ row (only 4) (has G-WHAT LEVEL-CHANGE) " " tens G-LEVEL " ft"
    ∷ say contracts (has G-WHAT ADDRESS) ", " "aircraft address"
    ∷ row (only 6) (has G-WHAT ADDRESS) "" nth G-ADDRESS ""
    ∷ say contracts (has G-WHAT PROFILE) ", " "projected profile"
    ∷ row (only 6) (has G-WHAT PROFILE) "" nth G-PROFILE ""
    ∷ say contracts (has G-WHAT GROUND-VECTOR) ", " "ground vector"
    ∷ row (only 6) (has G-WHAT GROUND-VECTOR) "" nth G-GROUND-VECTOR ""
    ∷ say contracts (has G-WHAT AIR-VECTOR) ", " "air vector"
    ∷ row (only 6) (has G-WHAT AIR-VECTOR) "" nth G-AIR-VECTOR ""
    ∷ say contracts (has G-WHAT WEATHER) ", " "weather"
    ∷ row (only 6) (has G-WHAT WEATHER) "" nth G-WEATHER ""
    ∷ []

unfoldable pub ground_words : List ℕ → List ℕ
ground_words f = rows_text ground_rows f []
