-- What demands 1 and 3 say of any side of a link: Calls.antt and Timers.antt say it of the ground's, Air.antt of the aircraft's.
use Rattle.std.specs.Prelude.{◌≡◌, true, false, List, [], ℕ, ◌+◌, ◌≤◌, ◌<◌, T, eqb, get_or}
use Rattle.link.specs.Names.{timers}
use Rattle.link.specs.Acts.{acts}
use Rattle.link.specs.Watch.{runs}
use Rattle.sides.specs.Tables.{member}
use Rattle.sides.specs.Runs.{Side, after, total, Untouched}

-- the call is refused
abbrev pub Refused : (s : Side) → s.Rec → s.Call → Type 0
Refused s l c = eqb (s.refusal (s.reply l c)) 0 ≡ false

-- Demand 1, over the numbers that are the side's
pub record Refuses (s : Side) (numbers : List ℕ) : Type 0 where
  -- "Public calls refuse by the numbers on the requirements page"
  pub listed : (l : s.Rec) (c : s.Call) → Refused s l c → T (member (s.refusal (s.reply l c)) numbers)
  -- "and a refused call leaves the link .. as before it": nor is there an action
  pub link_stays : (l : s.Rec) (c : s.Call) → Refused s l c → s.next (s.reply l c) ≡ l
  pub no_actions : (l : s.Rec) (c : s.Call) → Refused s l c → s.said (s.reply l c) ≡ acts []

-- the watch table names the timer t for the present states
abbrev pub Named : (s : Side) → s.Rec → ℕ → Type 0
Named s l t = runs s.tables.watch t (s.view l).at ≡ true

-- and does not
abbrev pub NotNamed : (s : Side) → s.Rec → ℕ → Type 0
NotNamed s l t = runs s.tables.watch t (s.view l).at ≡ false

-- the seconds that it has left; "running" is to have some
abbrev pub left_of : (s : Side) → s.Rec → ℕ → ℕ
left_of s l t = get_or (s.view l).left t 0

-- Demand 3, "After any sequence of calls from a fresh link": `ceiling` is what a timer may have left at the most
pub record Watches (s : Side) (fresh : s.Rec) (ceiling : s.Rec → ℕ → ℕ) : Type 0 where
  -- "the running timers are exactly those the watch table names for the present states, each with at least one second left and no more than its setting"
  pub at_least_one : (cs : List s.Call) (t : ℕ) → t < timers → Named s (after s fresh cs) t → 1 ≤ left_of s (after s fresh cs) t
  pub no_more : (cs : List s.Call) (t : ℕ) → t < timers → Named s (after s fresh cs) t → left_of s (after s fresh cs) t ≤ ceiling (after s fresh cs) t
  pub no_other : (cs : List s.Call) (t : ℕ) → t < timers → NotNamed s (after s fresh cs) t → left_of s (after s fresh cs) t ≡ 0

-- "If a timer has k seconds left, and no call starts or stops it before its accepted elapsed seconds first total k or more, then the call that gets there
-- aborts the link": the calls cs come first, and then the elapse of n seconds that gets there; the side's abort is that of reason 4, timer expiry
abbrev pub Expires : (s : Side) → s.Rec → (ℕ → s.Call) → Type 0
Expires s fresh elapse = (before : List s.Call) (t : ℕ) → t < timers → (k : ℕ) → 1 ≤ k → left_of s (after s fresh before) t ≡ k
    → (cs : List s.Call) → Untouched s t (after s fresh before) cs → (n : ℕ) → n ≤ 86400 → k ≤ total s (after s fresh before) cs + n
    → s.reply (after s (after s fresh before) cs) (elapse n) ≡ s.abort (after s (after s fresh before) cs)
