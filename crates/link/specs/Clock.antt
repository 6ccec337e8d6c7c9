-- "An elapse of n seconds, 0 to 86,400: if a running timer has n or fewer left (n at least 1), abort 4; else each running one loses n."
use Rattle.std.specs.Prelude.{Bool, not, List, [], ◌++◌, map, ℕ, zero, suc, ◌+◌, ◌-◌, leb, get_or}
use Rattle.link.specs.Tests.{both}
use Rattle.link.specs.Acts.{one}
use Rattle.link.specs.Names.{STOP}

-- the most seconds of one elapse
abbrev pub ELAPSE-MOST : ℕ
ELAPSE-MOST = 86400

-- a timer runs and has n or fewer left; so n is at least 1
unfoldable pub due : ℕ → ℕ → Bool
due n left = both (leb 1 left) (leb left n)

unfoldable pub not_due : ℕ → List ℕ → ℕ → Bool
not_due n left t = not (due n (get_or left t 0))

-- each running timer loses n, where none is due; one that does not run stays at 0
unfoldable pub later : ℕ → List ℕ → List ℕ
later n left = map (λ x. x - n) left

-- "Stop entries for all running timers, an expired one too, in watch order": those of the timers below t
unfoldable pub stops_of : ℕ → List ℕ → List ℕ
stops_of zero left = []
stops_of (suc t) left = stops_of t left ++ one (leb 1 (get_or left t 0)) (STOP + t)
