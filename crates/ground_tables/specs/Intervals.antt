-- The intervals of a periodic contract, in seconds (02, L2): the one asked for and the one in force. 0 seconds is "none".
use Rattle.std.specs.Prelude.{Bool, true, false, List, ℕ, eqb, leb, get_or}
use Rattle.link.specs.Tests.{both, either, pick}
use Rattle.link.specs.Names.{PC, IDLE, of}
use Rattle.link.specs.declared.moves.Move.{Move}
use Rattle.sides.specs.Tables.{same}
use Rattle.ground_tables.specs.Names.{START-PENDING, PENDING, CANCEL, request, report_ack, positive, noncompliance, negative}
use Rattle.ground_tables.specs.declared.intervals.Intervals.{Intervals}

abbrev pub no_intervals : Intervals
no_intervals = record { asked = 0; force = 0 }

-- which states of PC have which interval, by the first and the last of them
pub record Span : Type 0 where
  pub first : ℕ
  pub last : ℕ

-- asked for: START-PENDING, PENDING
abbrev pub asked_at : Span
asked_at = record { first = START-PENDING; last = PENDING }

-- in force: PENDING, ACTIVE, CANCEL
abbrev pub force_at : Span
force_at = record { first = PENDING; last = CANCEL }

-- the one rule over the two
abbrev pub holds : Span → ℕ → Bool
holds s pc = both (leb s.first pc) (leb pc s.last)

abbrev pub INTERVAL-MOST : ℕ
INTERVAL-MOST = 7200

-- refusal 29: "an interval missing from its state, foreign to it, or over 7,200"
unfoldable pub interval_ok : Bool → ℕ → Bool
interval_ok held x = pick held (both (leb 1 x) (leb x INTERVAL-MOST)) (eqb x 0)

unfoldable pub intervals_ok : ℕ → Intervals → Bool
intervals_ok pc i = both (interval_ok (holds asked_at pc) i.asked) (interval_ok (holds force_at pc) i.force)

-- "a report with ack, a positive ack or a noncompliance"
unfoldable pub agrees : ℕ → Bool
agrees e = either (eqb e (of PC report_ack)) (either (eqb e (of PC positive)) (eqb e (of PC noncompliance)))

-- "Any answer": one of these, or a negative ack; a plain report in PENDING is none
unfoldable pub answers : ℕ → Bool
answers e = either (agrees e) (eqb e (of PC negative))

-- what is asked for once PC has gone to a state: nothing, what the request asks, or what was asked before.
-- "Any answer clears the asked one, PC going IDLE both."
abbrev pub asked_after : {A : Type 0} → ℕ → ℕ → A → A → A → A
asked_after e state none new old = pick (eqb state IDLE) none (pick (eqb e (of PC request)) new (pick (answers e) none old))

-- what is in force then: nothing, what was asked for, or what was in force before. "the asked one comes into force on entering ACTIVE by a report with ack, a
-- positive ack or a noncompliance, and a negative ack leaves the old one"
abbrev pub force_after : {A : Type 0} → ℕ → ℕ → A → A → A → A
force_after e state none asked old = pick (eqb state IDLE) none (pick (agrees e) asked old)

-- the intervals after the event e and its move; n is what a periodic request asks for. Moves of other modules leave them
unfoldable pub agreed : Intervals → ℕ → ℕ → Move → Intervals
agreed i e n m =
    pick (eqb m.who PC)
    (record { asked = asked_after e m.to 0 n i.asked; force = force_after e m.to 0 i.asked i.force })
    i

-- a row of PC fits the two spans: an interval is there after it exactly at a state that has it
unfoldable pub interval_row : List ℕ → ℕ → Move → Bool
interval_row at e m =
    let pc = get_or at PC 0 in
    pick (eqb m.who PC)
    (both (same (holds asked_at m.to) (asked_after e m.to false true (holds asked_at pc)))
    (same (holds force_at m.to) (force_after e m.to false (holds asked_at pc) (holds force_at pc))))
    true
