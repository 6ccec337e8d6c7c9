-- The air link's record, and refusal 29, the check of it: a setting not 1..86,400, EM3 running elsewhere than in EM-CANCEL or not running there, its seconds not 1..setting, LI in IDLE
-- with a module not IDLE, a number that is no state. A timer runs where it has seconds left.
use Rattle.std.specs.Prelude.{Bool, List, [], ◌∷◌, ℕ, set, replicate}
use Rattle.link.specs.Tests.{both}
use Rattle.link.specs.Names.{timers, LI}
use Rattle.link.specs.Moves.{li_to}
use Rattle.link.specs.Watch.{seconds_ok}
use Rattle.link.specs.Step.{begun, rest_at}
use Rattle.link.specs.declared.moves.Move.{Move}
use Rattle.link.specs.declared.executor.Step.{Step}
use Rattle.sides.specs.Tables.{move_of}
use Rattle.sides.specs.Runs.{View, Part, timers_ok, performed_all}
use Rattle.air_tables.specs.Names.{EM3, LI-IDLE}
use Rattle.air_tables.specs.Tables.{air_tables}
use Rattle.air_answer.specs.declared.record.AirLink.{AirLink}

-- EM3's setting; seconds left in watch order; the states of DC, EC, PC, EM and LI
abbrev pub made : ℕ → List ℕ → List ℕ → AirLink
made setting left at = record { setting = setting; left = left; at = at }

-- "A start loads the timer's setting". The places without a timer have 1, and nothing starts them
unfoldable pub loads : AirLink → List ℕ
loads l = set (replicate timers 1) EM3 l.setting

-- what the machinery sees of it
abbrev pub view : AirLink → View
view l = record { at = l.at; left = l.left; most = loads l }

unfoldable pub good : AirLink → Bool
good l = both (seconds_ok l.setting) (timers_ok air_tables (view l))

-- everything IDLE, no timer running
unfoldable pub fresh : ℕ → AirLink
fresh setting = made setting (replicate timers 0) (rest_at LI-IDLE)

-- the link after a step: its setting stays
unfoldable pub followed : AirLink → Step → AirLink
followed l s = made l.setting s.left s.at

-- a move of the link, and the entry for what it sends
abbrev pub part : AirLink → Move → ℕ → Part
part l m entry = record { move = m; send = entry; most = loads l }

-- moves of one call, one after the other
unfoldable pub played : AirLink → List Part → Step
played l ps = performed_all (begun l.at l.left) ps

-- LI goes to k first; then the tables decide on the event, and their move is made. `entry` is for what it sends
unfoldable pub move_at : AirLink → ℕ → ℕ → Move
move_at l k e = move_of air_tables (set l.at LI k) e

abbrev pub went_parts : AirLink → ℕ → ℕ → ℕ → List Part
went_parts l k e entry = part l (li_to k) 0 ∷ part l (move_at l k e) entry ∷ []
