-- Words by their numbers: 01's word where it has one, else 002's, and 003's where 002 has none.
use Rattle.std.specs.Prelude.{List, [], ◌∷◌, ◌++◌, ℕ, get_or}
use Rattle.text.specs.Letters.{ascii}

-- requests (003, RequestType: 002 has no end forward), and the ground PDU that is none
abbrev pub requests : List (List ℕ)
requests =
    ascii "event contract" ∷ ascii "periodic contract" ∷ ascii "demand contract" ∷ ascii "cancel event contract" ∷ ascii "cancel periodic contract"
    ∷ ascii "modify emergency contract" ∷ ascii "cancel all contracts" ∷ ascii "end forward contract" ∷ ascii "cancel emergency ack"
    ∷ []

-- reasons of a negative ack (003, Reason: 002's text says "cannot meet reporting rate" too, its type says "undefined")
abbrev pub reasons : List (List ℕ)
reasons =
    ascii "ADS service unavailable" ∷ ascii "cannot meet reporting rate" ∷ ascii "maximum capacity exceeded" ∷ ascii "undefined reason"
    ∷ []

-- events (002, EventTypeReported and EventTypeContracted, which ends at level change)
abbrev pub events : List (List ℕ)
events =
    ascii "lateral deviation change" ∷ ascii "vertical rate change" ∷ ascii "level threshold" ∷ ascii "waypoint change" ∷ ascii "air speed change"
    ∷ ascii "ground speed change" ∷ ascii "heading change" ∷ ascii "extended projected profile change" ∷ ascii "figure of merit change"
    ∷ ascii "track angle change" ∷ ascii "level change" ∷ ascii "baseline"
    ∷ []

-- elements of a report (002, ReportType, and ReportTypeAndPeriod, which alone has the last)
abbrev pub elements : List (List ℕ)
elements =
    ascii "aircraft address" ∷ ascii "projected profile" ∷ ascii "ground vector" ∷ ascii "air vector" ∷ ascii "weather" ∷ ascii "short-term intent"
    ∷ ascii "extended projected profile" ∷ ascii "reporting rate"
    ∷ []

-- accuracies (002, PositionAccuracy: nm are nautical miles)
abbrev pub accuracies : List (List ℕ)
accuracies =
    ascii "complete loss" ∷ ascii "under 30 nm" ∷ ascii "under 15 nm" ∷ ascii "under 8 nm" ∷ ascii "under 4 nm" ∷ ascii "under 1 nm"
    ∷ ascii "under 0.25 nm" ∷ ascii "under 0.05 nm"
    ∷ []

-- reasons of an abort (002, AbortReason)
abbrev pub abort_reasons : List (List ℕ)
abort_reasons =
    ascii "communications service failure" ∷ ascii "unrecoverable system error" ∷ ascii "invalid PDU" ∷ ascii "sequence error" ∷ ascii "timer expiry"
    ∷ ascii "cannot establish contact" ∷ ascii "undefined error" ∷ ascii "dialogue end not accepted"
    ∷ []

-- hemispheres
abbrev pub norths : List (List ℕ)
norths = ascii "N" ∷ ascii "S" ∷ []

abbrev pub easts : List (List ℕ)
easts = ascii "E" ∷ ascii "W" ∷ []

-- truth values
abbrev pub truths : List (List ℕ)
truths = ascii "no" ∷ ascii "yes" ∷ []

-- scales of an interval
abbrev pub scales : List (List ℕ)
scales = ascii "second" ∷ ascii "minute" ∷ []

-- labels and units
abbrev pub labels : List (List ℕ)
labels =
    ascii "air: " ∷ ascii "ground: " ∷ ascii ", " ∷ ascii " " ∷ ascii ": " ∷ ascii " (" ∷ ascii ")" ∷ ascii "-" ∷ ascii ":" ∷ ascii "s"
    ∷ ascii " every " ∷ ascii "cancel emergency" ∷ ascii "demand report" ∷ ascii "emergency report" ∷ ascii "event report: " ∷ ascii "negative ack to "
    ∷ ascii ", used by " ∷ ascii "noncompliance with " ∷ ascii " not met" ∷ ascii "periodic report" ∷ ascii "positive ack to " ∷ ascii "provider abort "
    ∷ ascii ", positive ack" ∷ ascii ", level " ∷ ascii " ft" ∷ ascii ", accuracy " ∷ ascii ", multiple units " ∷ ascii ", acas " ∷ ascii ", aircraft "
    ∷ ascii ", track " ∷ ascii ", ground speed " ∷ ascii " kt" ∷ ascii ", vertical rate " ∷ ascii " ft/min" ∷ ascii ", heading " ∷ ascii ", mach " ∷ ascii ", ias "
    ∷ ascii ", wind " ∷ ascii " at " ∷ ascii ", wind speed " ∷ ascii ", temperature " ∷ ascii " C" ∷ ascii ", turbulence "
    ∷ ascii " nm" ∷ ascii ", level range, ceiling " ∷ ascii ", floor " ∷ ascii " degrees" ∷ ascii ", waypoints "
    ∷ []

-- the lists by their numbers in the code's rows: the first has one word, which is empty
unfoldable pub lists : List (List (List ℕ))
lists = ([] ∷ []) ∷ requests ∷ reasons ∷ events ∷ elements ∷ accuracies ∷ abort_reasons ∷ norths ∷ easts ∷ truths ∷ scales ∷ []

unfoldable pub list_at : ℕ → List (List ℕ)
list_at n = get_or lists n []

-- all their words by their numbers there
unfoldable pub vocabulary : List (List ℕ)
vocabulary = [] ∷ (requests ++ reasons ++ events ++ elements ++ accuracies ++ abort_reasons ++ norths ++ easts ++ truths ++ scales ++ labels)

-- why a reading was refused (01, "Refusal numbers", which start at 7; L6)
unfoldable pub refusal_words : List (List ℕ)
refusal_words =
    [] ∷ [] ∷ [] ∷ [] ∷ [] ∷ [] ∷ []
    ∷ ascii " (input ends inside a field)"
    ∷ ascii " (sent value above its range or index unused)"
    ∷ ascii " (extension bit set)"
    ∷ ascii " (presence bit of an element not carried)"
    ∷ ascii " (default interval sent)"
    ∷ ascii " (list over 16)"
    ∷ ascii " (filling not zero)"
    ∷ ascii " (octets after the PDU)"
    ∷ ascii " (event contract with no element)"
    ∷ ascii " (input over 128 octets)"
    ∷ ascii " (line not readable)"
    ∷ ascii " (check wrong)"
    ∷ ascii " (block number out of turn)"
    ∷ ascii " (record not readable)"
    ∷ []
