-- Demand 3, over every sequence of calls from a fresh link with good settings. The watch table is 01's, `ground_watch`; "running" is to have seconds left.
use Rattle.std.specs.Prelude.{◌≡◌, List, ℕ, ◌+◌, ◌≤◌, ◌<◌, T, eqb, length, get_or}
use Rattle.link.specs.Names.{timers, EC, PC, EM, LI, IDLE}
use Rattle.link.specs.Tests.{pick}
use Rattle.sides.specs.Runs.{after, total, Untouched}
use Rattle.ground_tables.specs.Names.{ACTIVE, EC1, EC2, PC2, LI1, LI-END}
use Rattle.ground_tables.specs.Intervals.{intervals_ok}
use Rattle.ground_answer.specs.Record.{fresh, good}
use Rattle.ground_answer.specs.Aborts.{aborted}
use Rattle.pdu.specs.Reasons.{TIMER-EXPIRY}
use Rattle.ground_answer.specs.declared.record.Link.{Link}
use Rattle.ground.specs.Runs.{answered, Made, ground}
use Rattle.ground.specs.declared.call.Call.TheVariants.{Elapse, Data}
use Rattle.promises.specs.Sides.{Watches, Expires}

-- ten settings of 1..86,400
pub record Settings (s : List ℕ) : Type 0 where
  pub ten : length s ≡ timers
  pub least : (t : ℕ) → t < timers → 1 ≤ get_or s t 0
  pub most : (t : ℕ) → t < timers → get_or s t 0 ≤ 86400

-- "After any sequence of calls from a fresh link"
abbrev pub played : List ℕ → List Made → Link
played s cs = after ground (fresh s) cs

-- what a timer may have left at the most: its setting, and for PC2 "no more than interval plus grace" (02, L2)
abbrev pub ceiling : List ℕ → Link → ℕ → ℕ
ceiling s l t = get_or s t 0 + pick (eqb t PC2) l.interval.force 0

pub record Timers : Type 0 where
  -- "the running timers are exactly those the watch table names for the present states, each with at least one second left and no more than its setting"
  pub watched : (s : List ℕ) → Settings s → Watches ground (fresh s) (ceiling s)
  -- "If a timer has k seconds left .. then the call that gets there aborts the link."
  pub expires : (s : List ℕ) → Settings s → (octets : List ℕ) → Expires ground (fresh s) (λ n. record { call = Elapse n; octets = octets })
  -- no "interval missing from its state, foreign to it, or over 7,200" comes about
  pub intervals : (s : List ℕ) → Settings s → (cs : List Made) → T (intervals_ok (get_or (played s cs).at PC 0) (played s cs).interval)
  -- "An event contract in force has no clock"
  pub no_clock : (s : List ℕ) → Settings s → (cs : List Made) → get_or (played s cs).at EC 0 ≡ ACTIVE
      → (get_or (played s cs).left EC1 0 ≡ 0) × (get_or (played s cs).left EC2 0 ≡ 0)

-- The desk's question, "If the periodic report stops coming, how long does your box go on showing me the last one?" With a periodic contract in force and no
-- emergency: until the interval in force and PC2's setting, its grace, have elapsed. The elapse that gets there aborts the link
abbrev pub Desk : Type 0
Desk = (s : List ℕ) → Settings s → (before : List Made) → get_or (played s before).at PC 0 ≡ ACTIVE → get_or (played s before).at EM 0 ≡ IDLE
    → (cs : List Made) → Untouched ground PC2 (played s before) cs → (n : ℕ) → n ≤ 86400
    → (played s before).interval.force + get_or s PC2 0 ≤ total ground (played s before) cs + n → (octets : List ℕ)
    → answered (after ground (played s before) cs) (Elapse n) octets ≡ aborted (after ground (played s before) cs) TIMER-EXPIRY

-- 02, L8: "An end request was lost below us and a link stood in END all night."
pub record Closing : Type 0 where
  -- LI1 "runs exactly in END. On expiry, abort 4 as usual": the elapse with which LI1's setting has passed in END aborts the link
  pub ends : (s : List ℕ) → Settings s → (before : List Made) → get_or (played s before).at LI 0 ≡ LI-END
      → (cs : List Made) → Untouched ground LI1 (played s before) cs → (n : ℕ) → n ≤ 86400
      → get_or s LI1 0 ≤ total ground (played s before) cs + n → (octets : List ℕ)
      → answered (after ground (played s before) cs) (Elapse n) octets ≡ aborted (after ground (played s before) cs) TIMER-EXPIRY
  -- "Late data doesn't restart it"
  pub late : (l : Link) (octets : List ℕ) → T (good l) → get_or l.at LI 0 ≡ LI-END → (answered l Data octets).link ≡ l
