-- The link record, and refusal 29, the check of it: "running timers not those of the watch table, seconds left not 1..setting, a setting not 1..86,400, or LI
-- in IDLE or END with a module not IDLE", and of L2 "no more than interval plus grace" for PC2, and "an interval missing from its state, foreign to it, or over
-- 7,200". A timer runs where it has seconds left; numbers that are no state are 29 as well.
use Rattle.std.specs.Prelude.{ℕ, ◌+◌, ◌%◌, ◌^◌, Bool, List, replicate, slice_index, slice_set}
use Rattle.link.specs.Tests.{both, below}
use Rattle.link.specs.Names.{timers, PC, LI}
use Rattle.link.specs.Watch.{setting_ok}
use Rattle.link.specs.Step.{performed, begun, rest_at}
use Rattle.link.specs.declared.moves.Move.{Move}
use Rattle.link.specs.declared.executor.Step.{Step}
use Rattle.link.specs.Moves.{li_to}
use Rattle.sides.specs.Tables.{move_of}
use Rattle.sides.specs.Runs.{View, timers_ok}
use Rattle.ground_tables.specs.Names.{PC2, LI-IDLE}
use Rattle.ground_tables.specs.Intervals.{no_intervals, intervals_ok, agreed}
use Rattle.ground_tables.specs.declared.intervals.Intervals.{Intervals}
use Rattle.ground_tables.specs.Tables.{ground_tables}
use Rattle.ground_answer.specs.declared.record.Link.{Link}

-- settings and seconds left in watch order; the states of DC, EC, PC, EM and LI; the intervals of the periodic contract
abbrev pub made : List ℕ → List ℕ → List ℕ → Intervals → Link
made setting left at interval = record { setting = setting; left = left; at = at; interval = interval }

-- the link with other intervals
abbrev pub holding : Link → Intervals → Link
holding l i = made l.setting l.left l.at i

-- "A start loads the timer's setting"; "PC2 must run for the interval in force plus its setting". Numbers have 32 bits, and those of a good record have room
unfoldable pub loads : Link → List ℕ
loads l = slice_set l.setting PC2 ((slice_index l.setting PC2 + l.interval.force) % 2 ^ 32)

-- what the machinery sees of it
abbrev pub view : Link → View
view l = record { at = l.at; left = l.left; most = loads l }

unfoldable pub good : Link → Bool
good l =
    both (below timers (setting_ok l.setting))
    (both (intervals_ok (slice_index l.at PC) l.interval) (timers_ok ground_tables (view l)))

-- everything IDLE, no timer running
unfoldable pub fresh : List ℕ → Link
fresh s = made s (replicate timers 0) (rest_at LI-IDLE) no_intervals

-- the link after a step: its settings and intervals stay
unfoldable pub followed : Link → Step → Link
followed l s = made l.setting s.left s.at l.interval

-- "PC going IDLE both": where everything stops there is no interval any more
unfoldable pub cleared : Link → Link
cleared l = holding l no_intervals

-- LI goes to a state first; then the tables decide on the event, and their move is made. `entry` is for what it sends
unfoldable pub turned : Link → ℕ → Step
turned l k = performed (begun l.at l.left) (li_to k) (loads l) 0

unfoldable pub move_at : Link → ℕ → ℕ → Move
move_at l k e = move_of ground_tables (slice_set l.at LI k) e

-- the intervals after the event are there before a timer is loaded; n is what a periodic request asks for
unfoldable pub agreed_at : Link → ℕ → ℕ → ℕ → Link
agreed_at l k e n = holding l (agreed l.interval e n (move_at l k e))

unfoldable pub went : Link → ℕ → ℕ → ℕ → ℕ → Step
went l k e n entry = performed (turned l k) (move_at l k e) (loads (agreed_at l k e n)) entry
