-- A side's tables, as data, and the one computed test that they fit its watch table.
use Rattle.std.specs.Prelude.{Bool, true, false, not, List, [], ◌∷◌, ℕ, zero, suc, ◌+◌, ◌*◌, eqb, leb, length, get_or, set}
use Rattle.link.specs.Tests.{both, either, pick, below}
use Rattle.link.specs.Names.{timers, EM, GROUP}
use Rattle.link.specs.Watch.{runs, state_ok}
use Rattle.link.specs.Moves.{Row, move_in, does_go}
use Rattle.link.specs.Step.{rest_at}
use Rattle.link.specs.declared.moves.Move.{Move}
use Rattle.link.specs.declared.watch.Watch.{Watch}

-- a move that the link module makes by its own rule, at the states at which it may
pub record Own : Type 0 where
  pub may : List ℕ → Bool
  pub does : Move

pub record Tables : Type 0 where
  -- which timer runs at which states
  pub watch : Watch
  -- the last state of each of the five modules, and which states may stand together
  pub tops : List ℕ
  pub together : List ℕ → Bool
  -- the states at which modules may move, and the rows of each module at them
  pub open_to : List ℕ → Bool
  pub rows : List ℕ → List (List Row)
  -- the link module's own moves, and its states in which everything may rest
  pub owns : List Own
  pub rests : ℕ → Bool
  -- the module by whose moves what a start of the timer loads may change; 5 for none
  pub changer : ℕ → ℕ
  -- the timers that each module's moves may matter to
  pub nearby : List (List ℕ)
  -- what else the side asks of a row: at the states, on the event
  pub also : List ℕ → ℕ → Move → Bool

module _ (b : Tables) where
  -- refusal 29's part that is of states alone
  unfoldable pub states_ok : List ℕ → Bool
  states_ok at = both (below 5 (state_ok b.tops at)) (b.together at)

  -- the table's move at the states, on an event
  unfoldable pub move_of : List ℕ → ℕ → Move
  move_of at e = move_in 0 (b.rows at) at e

abbrev pub same : Bool → Bool → Bool
same true b = b
same false b = not b

-- a timer runs on through the move
abbrev pub on_through : Watch → List ℕ → Move → ℕ → Bool
on_through w at m t = both (runs w t at) (not (eqb t m.stop))

-- a timer runs after the move, by what the move starts and stops
abbrev pub after_move : Watch → List ℕ → Move → ℕ → Bool
after_move w at m t = either (eqb t m.start) (on_through w at m t)

-- at a timer: the watch table says of the next states what the move did, and where the move may change what the timer loads, the timer does not run on
unfoldable pub timer_fits : Tables → List ℕ → Move → ℕ → Bool
timer_fits b at m t =
    both (same (runs b.watch t (set at m.who m.to)) (after_move b.watch at m t))
    (pick (eqb m.who (b.changer t)) (not (on_through b.watch at m t)) true)

abbrev pub member : ℕ → List ℕ → Bool
member x [] = false
member x (y ∷ ys) = either (eqb x y) (member x ys)

abbrev pub all_of : (ℕ → Bool) → List ℕ → Bool
all_of f [] = true
all_of f (x ∷ xs) = both (f x) (all_of f xs)

abbrev pub near : Tables → ℕ → List ℕ
near b who = get_or b.nearby who []

-- a move of the module cannot matter to the timer: it is not the timer's, nor EM where the timer looks at EM, nor the one that changes what it loads
unfoldable pub apart : Tables → ℕ → ℕ → Bool
apart b who t =
    both (not (eqb (get_or b.watch.who t 0) who))
    (both (pick (eqb EM who) (leb (get_or b.tops EM 0) (get_or b.watch.em t 0)) true) (not (eqb who (b.changer t))))

unfoldable pub near_fits : Tables → ℕ → Bool
near_fits b who = below timers (λ t. either (member t (near b who)) (apart b who t))

-- the move leads to states, starts and stops timers of its module alone, and fits at each of them
unfoldable pub balanced : Tables → List ℕ → Move → Bool
balanced b at m =
    both (leb m.who 4)
    (both (states_ok b (set at m.who m.to))
    (both (either (leb timers m.start) (member m.start (near b m.who)))
    (both (either (leb timers m.stop) (member m.stop (near b m.who))) (all_of (timer_fits b at m) (near b m.who)))))

-- a move that goes is balanced, and what else the side asks
unfoldable pub fits : Tables → List ℕ → ℕ → Move → Bool
fits b at e m = pick (does_go m) (both (balanced b at m) (b.also at e m)) true

-- a test at each states
abbrev pub vectors : List ℕ → (List ℕ → Bool) → Bool
vectors [] f = f []
vectors (n ∷ ns) f = below (suc n) (λ k. vectors ns (λ l. f (k ∷ l)))

-- the rows of the module k at its present state
abbrev pub rows_fit : Tables → List ℕ → ℕ → List Row → Bool
rows_fit b at k [] = true
rows_fit b at k (r ∷ rs) = both (pick (eqb (get_or at k 0) r.state) (fits b at (GROUP * k + r.event) r.does) true) (rows_fit b at k rs)

abbrev pub groups_fit : Tables → List ℕ → ℕ → List (List Row) → Bool
groups_fit b at k [] = true
groups_fit b at k (rs ∷ rss) = both (rows_fit b at k rs) (groups_fit b at (k + 1) rss)

abbrev pub owns_fit : Tables → List ℕ → List Own → Bool
owns_fit b at [] = true
owns_fit b at (o ∷ os) = both (pick (o.may at) (balanced b at o.does) true) (owns_fit b at os)

-- how many numbers below n pass a test
abbrev pub count : ℕ → (ℕ → Bool) → ℕ
count zero f = 0
count (suc n) f = pick (f n) 1 0 + count n f

-- at states that may stand together: rows and own moves fit, and at most four timers run
unfoldable pub states_fit : Tables → List ℕ → Bool
states_fit b at =
    pick (b.together at)
    (both (pick (b.open_to at) (groups_fit b at 0 (b.rows at)) true)
    (both (owns_fit b at b.owns) (leb (count timers (λ t. runs b.watch t at)) 4)))
    true

-- where everything rests no timer runs
unfoldable pub rest_fits : Tables → ℕ → Bool
rest_fits b li = pick (b.rests li) (both (states_ok b (rest_at li)) (below timers (λ t. not (runs b.watch t (rest_at li))))) true

-- the one test
unfoldable pub all_fit : Tables → Bool
all_fit b =
    both (eqb (length b.tops) 5)
    (both (below 5 (near_fits b)) (both (vectors b.tops (states_fit b)) (below (suc (get_or b.tops 4 0)) (rest_fits b))))
