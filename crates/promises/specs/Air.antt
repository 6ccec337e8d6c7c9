-- The demands of the air link (02, L4). Every call gives `answered`, a function of link, call, list and octets, for every input (contract of `answer`, air/src/call.rt).
use Rattle.std.specs.Prelude.{◌≡◌, List, [], ◌∷◌, ℕ, ◌≤◌, ◌<◌, T, length, get_or}
use Rattle.per.specs.Pdu.{read_pdu, got, refused}
use Rattle.pdu_parts.specs.declared.lists.Listed.{Listed}
use Rattle.pdu.specs.declared.uplink.Ground.TheVariants.{CancelAll, CancelContract}
use Rattle.pdu.specs.declared.downlink.Air.TheVariants.{Positive}
use Rattle.pdu.specs.UplinkTable.{ground_c}
use Rattle.pdu.specs.DownlinkTable.{bare_air}
use Rattle.pdu.specs.Reasons.{INVALID-PDU}
use Rattle.link.specs.Names.{timers, EC, PC, EM, LI, IDLE, DATA-REQUEST, IND}
use Rattle.link.specs.Acts.{acts}
use Rattle.sides.specs.Runs.{after}
use Rattle.air_tables.specs.Names.{ACTIVE, CANCEL, EM3, LI-IDLE, LI-ACTIVE}
use Rattle.air_answer.specs.Record.{good}
use Rattle.air_answer.specs.Fresh.{opened}
use Rattle.air_answer.specs.Sent.{sent, outgoing}
use Rattle.air_answer.specs.Aborts.{aborted}
use Rattle.air_answer.specs.declared.record.AirLink.{AirLink}
use Rattle.air_answer.specs.declared.answer.Answer.{Answer}
use Rattle.air.specs.Runs.{answered, Made, reply, air_side}
use Rattle.air.specs.declared.call.Call.TheVariants.{Elapse, StartInd, Data, EndInd}
use Rattle.promises.specs.Sides.{Refused, Refuses, Watches, Expires}
use Rattle.refusals.specs.Refusals.{NOT-PERMITTED, CANNOT-OCCUR, ELAPSE-OVER, OUT-OF-RANGE, NOT-CARRIED, LIST-OVER, BAD-RECORD}

-- 01, "Refusal numbers", those of calls on an air link: "29, 4, 1 or 2, then fields", of which an aircraft PDU's give 5, 10 and 12
abbrev pub air_numbers : List ℕ
air_numbers = NOT-PERMITTED ∷ CANNOT-OCCUR ∷ ELAPSE-OVER ∷ OUT-OF-RANGE ∷ NOT-CARRIED ∷ LIST-OVER ∷ BAD-RECORD ∷ []

-- Demand 1: "Any octets, any call, any state: an answer."
pub record AirRefusals : Type 0 where
  -- "Public calls refuse by the numbers on the requirements page, and a refused call leaves the link .. as before it": nor is there an action or a PDU to send
  pub calls : Refuses air_side air_numbers
  pub no_octets : (l : AirLink) (c : Made) → Refused air_side l c → (reply l c).said.sent ≡ sent []
  -- "Unreadable data .. aborts the link with its stated reason": with a start indication (002:6106)
  pub unread_start : (l : AirLink) (list : Listed) (s : List ℕ) (n : ℕ) → T (good l) → get_or l.at LI 0 ≡ LI-IDLE → read_pdu ground_c s ≡ refused n
      → answered l StartInd list s ≡ aborted l INVALID-PDU
  -- "or on an active link" (002:6110)
  pub unread_data : (l : AirLink) (list : Listed) (s : List ℕ) (n : ℕ) → T (good l) → get_or l.at LI 0 ≡ LI-ACTIVE → read_pdu ground_c s ≡ refused n
      → answered l Data list s ≡ aborted l INVALID-PDU
  -- and with an end indication, where data that reads as anything but cancel-all aborts the link as well (002:6114)
  pub no_cancel_all : (l : AirLink) (list : Listed) (s : List ℕ) → T (good l) → get_or l.at LI 0 ≡ LI-ACTIVE → 1 ≤ length s → (read_pdu ground_c s ≡ got CancelAll → ⊥)
      → answered l EndInd list s ≡ aborted l INVALID-PDU

-- EM3's setting, 1..86,400
pub record Setting (s : ℕ) : Type 0 where
  pub least : 1 ≤ s
  pub most : s ≤ 86400

-- "After any sequence of calls from a fresh link"
abbrev pub flown : ℕ → List Made → AirLink
flown s cs = after air_side (opened s).link cs

-- Demand 3. 02, L4: "Air timers .. get a watch table of their own, and demand 3 then holds for the air link over that table", which is `air_watch`
pub record AirTimers : Type 0 where
  -- both sentences over the table, with EM3's setting as the most
  pub watched : (s : ℕ) → Setting s → Watches air_side (opened s).link (λ l t. s)
  pub expires : (s : ℕ) → Setting s → (list : Listed) (octets : List ℕ) → Expires air_side (opened s).link (λ n. record { call = Elapse n; list = list; octets = octets })
  -- what the table comes to: EM3 runs in EM-CANCEL,
  pub in_cancel : (s : ℕ) → Setting s → (cs : List Made) → get_or (flown s cs).at EM 0 ≡ CANCEL → (1 ≤ get_or (flown s cs).left EM3 0) × (get_or (flown s cs).left EM3 0 ≤ s)
  -- and in no other state,
  pub elsewhere : (s : ℕ) → Setting s → (cs : List Made) → (get_or (flown s cs).at EM 0 ≡ CANCEL → ⊥) → get_or (flown s cs).left EM3 0 ≡ 0
  -- and no other timer ever runs
  pub em3_alone : (s : ℕ) → Setting s → (cs : List Made) (t : ℕ) → t < timers → (t ≡ EM3 → ⊥) → get_or (flown s cs).left t 0 ≡ 0

-- "gives the indication, then sends the positive ack, then goes IDLE": the module `who`, the ack of request type n
pub record Acked (who n : ℕ) (a : Answer) : Type 0 where
  pub actions : a.said.acts ≡ acts (IND ∷ DATA-REQUEST ∷ [])
  pub ack : a.said.sent ≡ (outgoing (bare_air (Positive n))).sent
  pub goes_idle : get_or a.link.at who 0 ≡ IDLE

-- 02, L4: "A cancel in EC-A-ACTIVE or PC-A-ACTIVE", after any calls on a link that is active: request type 3 is "cancel-event-contract", 4 "cancel-periodic-contract"
pub record AirCancels : Type 0 where
  pub event : (s : ℕ) → Setting s → (cs : List Made) → get_or (flown s cs).at LI 0 ≡ LI-ACTIVE → get_or (flown s cs).at EC 0 ≡ ACTIVE
      → (list : Listed) (octets : List ℕ) → read_pdu ground_c octets ≡ got (CancelContract 0) → Acked EC 3 (answered (flown s cs) Data list octets)
  pub periodic : (s : ℕ) → Setting s → (cs : List Made) → get_or (flown s cs).at LI 0 ≡ LI-ACTIVE → get_or (flown s cs).at PC 0 ≡ ACTIVE
      → (list : Listed) (octets : List ℕ) → read_pdu ground_c octets ≡ got (CancelContract 1) → Acked PC 4 (answered (flown s cs) Data list octets)
