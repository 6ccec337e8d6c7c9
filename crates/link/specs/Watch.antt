-- A watch table has a row for each timer: its module, the first and the last of the states at which it runs, and the last state of EM at which it runs.
-- A timer that a side does not have has a last state before its first.
use Rattle.std.specs.Prelude.{Bool, List, ℕ, eqb, leb, ltb, get_or}
use Rattle.link.specs.Tests.{both, pick}
use Rattle.link.specs.Names.{timers, DC, EC, PC, EM, LI, IDLE}
use Rattle.link.specs.declared.watch.Watch.{Watch}

-- the one rule over the table: the timer t runs at the modules' states; a number past the last never does
unfoldable pub runs : Watch → ℕ → List ℕ → Bool
runs w t at =
    both (ltb t timers)
    (both (leb (get_or w.first t 0) (get_or at (get_or w.who t 0) 0))
    (both (leb (get_or at (get_or w.who t 0) 0) (get_or w.last t 0)) (leb (get_or at EM 0) (get_or w.em t 0))))

-- a start loads something; there are 1 to as many seconds left where the timer runs, and none where not
unfoldable pub timer_ok : Bool → ℕ → ℕ → Bool
timer_ok run most left = both (leb 1 most) (pick run (both (leb 1 left) (leb left most)) (eqb left 0))

unfoldable pub timer_good : Watch → List ℕ → List ℕ → List ℕ → ℕ → Bool
timer_good w at left most t = timer_ok (runs w t at) (get_or most t 0) (get_or left t 0)

-- each module is in one of its states, of which `tops` has the last ones
unfoldable pub state_ok : List ℕ → List ℕ → ℕ → Bool
state_ok tops at k = leb (get_or at k 0) (get_or tops k 0)

-- all four modules are IDLE
unfoldable pub idle : List ℕ → Bool
idle at =
    both (eqb (get_or at DC 0) IDLE)
    (both (eqb (get_or at EC 0) IDLE) (both (eqb (get_or at PC 0) IDLE) (eqb (get_or at EM 0) IDLE)))

-- the link module is at k
abbrev pub li_is : List ℕ → ℕ → Bool
li_is at k = eqb (get_or at LI 0) k

-- "setting not 1..86,400"
abbrev pub seconds_ok : ℕ → Bool
seconds_ok x = both (leb 1 x) (leb x 86400)

unfoldable pub setting_ok : List ℕ → ℕ → Bool
setting_ok s t = seconds_ok (get_or s t 0)
