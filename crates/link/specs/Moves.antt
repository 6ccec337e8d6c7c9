-- Moves, the words of their rows, and tables of rows: which ones a side has is its own matter.
use Rattle.std.specs.Prelude.{Bool, true, false, List, [], ◌∷◌, ℕ, ◌-◌, ◌+◌, ◌*◌, get_or, eqb, leb}
use Rattle.link.specs.Tests.{both, pick}
use Rattle.link.specs.Names.{no_timer, LI, GROUP, GOES, REFUSES, ABORTS}
use Rattle.link.specs.declared.moves.Move.{Move}

-- a move that goes, and neither refuses a request nor aborts for data
abbrev pub does_go : Move → Bool
does_go m = eqb m.fate GOES

-- a move: to a state of a module, with at most one timer stopped, an indication, a send and one timer started, in this order
abbrev pub go : ℕ → ℕ → ℕ → Bool → Bool → ℕ → Move
go who to stop ind send start = record { fate = GOES; stop = stop; ind = ind; send = send; start = start; who = who; to = to }

-- the words of the rows
abbrev pub to : ℕ → ℕ → Move
to who state = go who state no_timer false false no_timer

abbrev pub stop : ℕ → Move → Move
stop t m = go m.who m.to t m.ind m.send m.start

abbrev pub ind : Move → Move
ind m = go m.who m.to m.stop true m.send m.start

abbrev pub send : Move → Move
send m = go m.who m.to m.stop m.ind true m.start

abbrev pub start : ℕ → Move → Move
start t m = go m.who m.to m.stop m.ind m.send t

-- the link module's own move to a state
abbrev pub li_to : ℕ → Move
li_to k = to LI k

-- "Downlink data not listed for a state: abort 3. Requests not listed: refusal 1."
abbrev pub still : ℕ → Move
still fate = record { fate = fate; stop = no_timer; ind = false; send = false; start = no_timer; who = 0; to = 0 }

abbrev pub unlisted : ℕ → Move
unlisted event = pick (leb event 3) (still REFUSES) (still ABORTS)

pub record Row : Type 0 where
  pub state : ℕ
  pub event : ℕ
  pub does : Move

abbrev pub row : ℕ → ℕ → Move → Row
row s e m = record { state = s; event = e; does = m }

-- the move of the first row for the state and the event
abbrev pub look : List Row → ℕ → ℕ → Move → Move
look [] s e other = other
look (r ∷ rs) s e other = pick (both (eqb s r.state) (eqb e r.event)) r.does (look rs s e other)

-- events come in groups of 16, a group of rows for each module in turn; what is past the last is of no module
abbrev pub move_in : ℕ → List (List Row) → List ℕ → ℕ → Move
move_in k [] at e = unlisted (e - GROUP * k)
move_in k (rs ∷ rss) at e =
    pick (leb e (GROUP * k + 15)) (look rs (get_or at k 0) (e - GROUP * k) (unlisted (e - GROUP * k))) (move_in (k + 1) rss at e)
