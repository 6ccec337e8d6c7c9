-- Demands 1 and 2, of calls. Every call gives `answered`, a function of link, call and octets, for every input (contract of `answer`, ground/src/call.rt).
use Rattle.std.specs.Prelude.{◌≡◌, false, List, [], ◌∷◌, ℕ, ◌-◌, ◌≤◌, ◌<◌, T, eqb, get_or}
use Rattle.per.specs.Pdu.{read_pdu, refused}
use Rattle.pdu.specs.DownlinkTable.{air_c}
use Rattle.link.specs.Names.{timers, LI}
use Rattle.link.specs.Acts.{acts}
use Rattle.ground_tables.specs.Names.{LI-START, LI-ACTIVE}
use Rattle.ground_answer.specs.Record.{good}
use Rattle.pdu.specs.Reasons.{INVALID-PDU, TIMER-EXPIRY}
use Rattle.ground_answer.specs.declared.record.Link.{Link}
use Rattle.ground_answer.specs.Sent.{sent}
use Rattle.ground_answer.specs.Aborts.{aborted}
use Rattle.ground.specs.Runs.{answered, Made, reply, ground}
use Rattle.ground.specs.declared.call.Call.{Call}
use Rattle.ground.specs.declared.call.Call.TheVariants.{Elapse, StartConfirm, Data}
use Rattle.host_record.specs.Hosting.{hosted}
use Rattle.promises.specs.Sides.{Refused, Refuses}
use Rattle.refusals.specs.Refusals.{NOT-PERMITTED, CANNOT-OCCUR, ELAPSE-OVER, OUT-OF-RANGE, NOT-CARRIED, NO-ELEMENT, BAD-RECORD}

-- 01, "Refusal numbers", those of calls on a link: "29, 4, 1 or 2, then fields", of which a ground PDU's give 5, 10 and 15
abbrev pub numbers : List ℕ
numbers = NOT-PERMITTED ∷ CANNOT-OCCUR ∷ ELAPSE-OVER ∷ OUT-OF-RANGE ∷ NOT-CARRIED ∷ NO-ELEMENT ∷ BAD-RECORD ∷ []

-- Demand 1: "Any octets, any call, any state: an answer."
pub record Refusals : Type 0 where
  -- "Public calls refuse by the numbers on the requirements page, and a refused call leaves the link .. as before it": nor is there an action or a PDU to send
  pub calls : Refuses ground numbers
  pub no_octets : (l : Link) (c : Made) → Refused ground l c → (reply l c).said.sent ≡ sent []
  -- "and every lent buffer": the record that a host lends, and its buffer for the answer
  pub record_stays : (call : Call) (octets s o : List ℕ) → eqb (hosted call octets s o).number 0 ≡ false → (hosted call octets s o).link ≡ s
  pub answer_stays : (call : Call) (octets s o : List ℕ) → eqb (hosted call octets s o).number 0 ≡ false → (hosted call octets s o).answer ≡ o
  -- "Unreadable data from the aircraft, in its answer to our start .. aborts the link with its stated reason"
  pub unread_answer : (l : Link) (s : List ℕ) (n : ℕ) → T (good l) → get_or l.at LI 0 ≡ LI-START → read_pdu air_c s ≡ refused n
      → answered l StartConfirm s ≡ aborted l INVALID-PDU
  -- "or on an active link"
  pub unread_data : (l : Link) (s : List ℕ) (n : ℕ) → T (good l) → get_or l.at LI 0 ≡ LI-ACTIVE → read_pdu air_c s ≡ refused n
      → answered l Data s ≡ aborted l INVALID-PDU

-- no running timer has n or fewer seconds left
abbrev pub NoneDue : Link → ℕ → Type 0
NoneDue l n = (t : ℕ) → t < timers → 1 ≤ get_or l.left t 0 → n < get_or l.left t 0

-- Demand 2: "Each event, an elapse too, does exactly what the ground tables and clock rules say". The tables are those of `answered`; the clock of 01:
pub record Clock : Type 0 where
  -- "if a running timer has n or fewer left (n at least 1), abort 4"
  pub due : (l : Link) (n t : ℕ) → T (good l) → 1 ≤ n → n ≤ 86400 → t < timers → 1 ≤ get_or l.left t 0 → get_or l.left t 0 ≤ n → (octets : List ℕ)
      → answered l (Elapse n) octets ≡ aborted l TIMER-EXPIRY
  -- "else each running one loses n": nothing else of the link changes, and there is no action
  pub loses : (l : Link) (n t : ℕ) → T (good l) → n ≤ 86400 → NoneDue l n → t < timers → (octets : List ℕ)
      → get_or (answered l (Elapse n) octets).link.left t 0 ≡ get_or l.left t 0 - n
  pub same_states : (l : Link) (n : ℕ) → T (good l) → n ≤ 86400 → NoneDue l n → (octets : List ℕ) → (answered l (Elapse n) octets).link.at ≡ l.at
  pub silent : (l : Link) (n : ℕ) → T (good l) → n ≤ 86400 → NoneDue l n → (octets : List ℕ) → (answered l (Elapse n) octets).said.acts ≡ acts []
