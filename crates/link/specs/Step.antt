-- What a move that goes does: its actions in the order of the rows, the seconds and the states after it.
use Rattle.std.specs.Prelude.{List, [], ◌∷◌, ◌++◌, ℕ, ◌+◌, ltb, get_or, set, replicate}
use Rattle.link.specs.Acts.{acts, pushed, pushed_all, one}
use Rattle.link.specs.Clock.{stops_of}
use Rattle.link.specs.declared.moves.Move.{Move}
use Rattle.link.specs.Names.{timers, IDLE, ABORT-REQUEST, IND, ABORT-IND, STOP, START}
use Rattle.link.specs.declared.executor.Step.{Step}

-- stop, indication, send, start: what is there of them, in this order
unfoldable pub acts_of : Move → ℕ → List ℕ
acts_of m send =
    one (ltb m.stop timers) (STOP + m.stop) ++ one m.ind IND ++ one m.send send ++ one (ltb m.start timers) (START + m.start)

-- a stopped timer has none left, a started one what the start loads; a place past the last changes nothing
unfoldable pub left_after : List ℕ → Move → List ℕ → List ℕ
left_after left m most = set (set left m.stop 0) m.start (get_or most m.start 0)

unfoldable pub performed : Step → Move → List ℕ → ℕ → Step
performed s m most send =
    record {
      left = left_after s.left m most;
      at = set s.at m.who m.to;
      acts = pushed_all s.acts (acts_of m send);
    }

-- nothing done yet
unfoldable pub begun : List ℕ → List ℕ → Step
begun at left = record { left = left; at = at; acts = acts [] }

-- an entry of another kind after what was done
unfoldable pub added : Step → ℕ → Step
added s x = record { left = s.left; at = s.at; acts = pushed s.acts x }

-- everything IDLE, the link module at li
unfoldable pub rest_at : ℕ → List ℕ
rest_at li = 0 ∷ 0 ∷ 0 ∷ 0 ∷ li ∷ []

-- everything stopped, and the stops said
unfoldable pub stopped : ℕ → List ℕ → Step
stopped li left = record { left = replicate timers 0; at = rest_at li; acts = pushed_all (acts []) (stops_of timers left) }

-- "every abort below ends so as well": the stops and one entry, all IDLE, LI too
abbrev pub stopped_then : ℕ → List ℕ → Step
stopped_then entry left = added (stopped IDLE left) entry

-- "Stop entries for all running timers, an expired one too, in watch order, abort request .., abort indication n, all IDLE, LI too"
abbrev pub aborted_all : List ℕ → Step
aborted_all left = added (stopped_then ABORT-REQUEST left) ABORT-IND
