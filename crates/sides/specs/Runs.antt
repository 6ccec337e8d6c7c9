-- What a call does to the timers of a side, and sequences of calls.
use Rattle.std.specs.Prelude.{Bool, true, false, ◌≡◌, List, [], ◌∷◌, ◌++◌, ℕ, ◌+◌, ◌≤◌, ◌<◌, T, eqb, length, get_or, set, replicate}
use Rattle.link.specs.Names.{timers, STOP, START}
use Rattle.link.specs.Tests.{both, either, pick, below}
use Rattle.link.specs.Acts.{acts}
use Rattle.link.specs.Watch.{runs, timer_good}
use Rattle.link.specs.Clock.{not_due, later, stops_of}
use Rattle.link.specs.Step.{acts_of, left_after, performed, rest_at}
use Rattle.link.specs.declared.acts.Acts.{Acts}
use Rattle.link.specs.declared.moves.Move.{Move}
use Rattle.link.specs.declared.executor.Step.{Step}
use Rattle.sides.specs.Tables.{Tables, states_ok, balanced, member}

-- what the machinery sees of a record: states, seconds left, and what a start of each timer loads, which is the most it may have left
pub record View : Type 0 where
  pub at : List ℕ
  pub left : List ℕ
  pub most : List ℕ

-- the timers' part of refusal 29
unfoldable pub timers_ok : Tables → View → Bool
timers_ok b v = both (states_ok b v.at) (below timers (timer_good b.watch v.at v.left v.most))

pub record Sound (b : Tables) (v : View) : Type 0 where
  pub lefts : length v.left ≡ timers
  pub states : length v.at ≡ 5
  pub fine : T (timers_ok b v)

-- a move, the entry for what it sends, and what a start loads from then on
pub record Part : Type 0 where
  pub move : Move
  pub send : ℕ
  pub most : List ℕ

unfoldable pub stepped : View → Part → View
stepped v p = record { at = set v.at p.move.who p.move.to; left = left_after v.left p.move p.most; most = p.most }

abbrev pub steps : View → List Part → View
steps v [] = v
steps v (p ∷ ps) = steps (stepped v p) ps

abbrev pub said_of : List Part → List ℕ
said_of [] = []
said_of (p ∷ ps) = acts_of p.move p.send ++ said_of ps

-- the same for the step that the executor hands on
abbrev pub performed_all : Step → List Part → Step
performed_all s [] = s
performed_all s (p ∷ ps) = performed_all (performed s p.move p.most p.send) ps

-- what a start loads: at least a second for each timer
abbrev pub Loads : List ℕ → Type 0
Loads most = (t : ℕ) → t < timers → 1 ≤ get_or most t 0

-- a part fits where it is performed
pub record Fit (b : Tables) (v : View) (p : Part) : Type 0 where
  pub moves : T (balanced b v.at p.move)
  pub loads : Loads p.most
  pub steady : (t : ℕ) → t < timers → eqb p.move.who (b.changer t) ≡ false → get_or p.most t 0 ≡ get_or v.most t 0

abbrev pub Fits : Tables → View → List Part → Type 0
Fits b v [] = Unit {0}
Fits b v (p ∷ ps) = Fit b v p × Fits b (stepped v p) ps

unfoldable pub rested : ℕ → List ℕ → View
rested li most = record { at = rest_at li; left = replicate timers 0; most = most }

unfoldable pub waited : View → ℕ → View
waited v n = record { at = v.at; left = later n v.left; most = v.most }

-- a call that is accepted with s seconds and says a leads from v to w in one of three ways: seconds pass and no timer is due; moves that fit, one after
-- the other; everything stops, and then such moves. Entries of other kinds follow in the list
pub data Does (b : Tables) (v : View) (s : ℕ) (a : Acts) (w : View) : Type 0 where
  waits : T (below timers (not_due s v.left)) → a ≡ acts [] → w ≡ waited v s → Does b v s a w
  plays : (ps : List Part) (more : List ℕ) → Fits b v ps → s ≡ 0 → a ≡ acts (said_of ps ++ more) → w ≡ steps v ps → Does b v s a w
  stops : (li : ℕ) (most : List ℕ) (ps : List Part) (more : List ℕ) → T (b.rests li) → li ≤ get_or b.tops 4 0 → Loads most → Fits b (rested li most) ps
      → a ≡ acts (stops_of timers v.left ++ (said_of ps ++ more)) → w ≡ steps (rested li most) ps → Does b v s a w

-- a side: its record, its calls, its answers
pub record Side : Type 1 where
  pub tables : Tables
  pub Rec : Type 0
  pub Call : Type 0
  pub Answer : Type 0
  pub view : Rec → View
  pub reply : Rec → Call → Answer
  pub next : Answer → Rec
  pub said : Answer → Acts
  pub refusal : Answer → ℕ
  -- the elapse call, the seconds that a call asks for, and the abort at expiry
  pub elapse : ℕ → Call
  pub asks : Call → ℕ
  pub abort : Rec → Answer

module _ (s : Side) where
  -- the record after a sequence of calls
  unfoldable pub after : s.Rec → List s.Call → s.Rec
  after r [] = r
  after r (c ∷ cs) = after (s.next (s.reply r c)) cs

  -- For demand 3's "If a timer has k seconds left, and no call starts or stops it before its accepted elapsed seconds first total k or more": accepted seconds
  -- are read off the answers, starts and stops (`touches`) off the action lists. The seconds of a call that were accepted
  unfoldable pub seconds : s.Rec → s.Call → ℕ
  seconds r c = pick (eqb (s.refusal (s.reply r c)) 0) (s.asks c) 0

  unfoldable pub total : s.Rec → List s.Call → ℕ
  total r [] = 0
  total r (c ∷ cs) = seconds r c + total (s.next (s.reply r c)) cs

-- the action list stops or starts the timer t
unfoldable pub touches : ℕ → Acts → Bool
touches t a = either (member (STOP + t) a.list) (member (START + t) a.list)

-- no call of the sequence stops or starts the timer t
unfoldable pub Untouched : (s : Side) → ℕ → s.Rec → List s.Call → Type 0
Untouched s t r [] = Unit {0}
Untouched s t r (c ∷ cs) = (touches t (s.said (s.reply r c)) ≡ false) × Untouched s t (s.next (s.reply r c)) cs

-- "the running timers are exactly those the watch table names for the present states, each with at least one second left and no more than" a start loads
pub record Watched (s : Side) (r : s.Rec) (t : ℕ) : Type 0 where
  pub runs_left : runs s.tables.watch t (s.view r).at ≡ true
      → (1 ≤ get_or (s.view r).left t 0) × (get_or (s.view r).left t 0 ≤ get_or (s.view r).most t 0)
  pub else_none : runs s.tables.watch t (s.view r).at ≡ false → get_or (s.view r).left t 0 ≡ 0
