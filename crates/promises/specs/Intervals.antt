-- 02, L2, of intervals: what calls make of the one asked for and the one in force. 0 seconds is none.
use Rattle.std.specs.Prelude.{◌≡◌, List, ℕ, T, get_or}
use Rattle.per.specs.Pdu.{read_pdu, got}
use Rattle.pdu_parts.specs.declared.periodic.Periodic.{Periodic}
use Rattle.pdu.specs.declared.uplink.Ground.TheVariants.{PeriodicContract}
use Rattle.pdu.specs.declared.downlink.AirPdu.{AirPdu}
use Rattle.pdu.specs.DownlinkTable.{air_c}
use Rattle.link.specs.Names.{PC, LI, IDLE, of}
use Rattle.ground_tables.specs.Names.{PENDING, LI-START, LI-ACTIVE, report, negative}
use Rattle.ground_tables.specs.Intervals.{no_intervals, asked_at, holds, agrees}
use Rattle.ground_answer.specs.Record.{good}
use Rattle.ground_answer.specs.Events.{air_event, seconds_of}
use Rattle.ground_answer.specs.declared.record.Link.{Link}
use Rattle.ground.specs.Runs.{answered}
use Rattle.ground.specs.declared.call.Call.{Call}
use Rattle.ground.specs.declared.call.Call.TheVariants.{Request, StartConfirm, Data}

-- data may come: in the answer to our start, or on an active link
pub data Comes (l : Link) : Call → Type 0 where
  starting : get_or l.at LI 0 ≡ LI-START → Comes l StartConfirm
  active : get_or l.at LI 0 ≡ LI-ACTIVE → Comes l Data

-- a good link takes it, and it reads as a PDU
pub record Heard (l : Link) (c : Call) (octets : List ℕ) (a : AirPdu) : Type 0 where
  pub is_good : T (good l)
  pub comes : Comes l c
  pub reads : read_pdu air_c octets ≡ got a

pub record Intervals : Type 0 where
  -- an accepted periodic request sets the interval asked for, and leaves the one in force
  pub asks : (l : Link) (a : Periodic) (octets : List ℕ) → (answered l (Request (PeriodicContract a)) octets).said.refusal ≡ 0
      → (answered l (Request (PeriodicContract a)) octets).link.interval ≡ record { asked = seconds_of a.interval; force = l.interval.force }
  -- "the asked one comes into force on entering ACTIVE by a report with ack, a positive ack or a noncompliance"; "Any answer clears the asked one"
  pub comes_into_force : (l : Link) (c : Call) (octets : List ℕ) (a : AirPdu) → Heard l c octets a → T (agrees (air_event a.kind))
      → T (holds asked_at (get_or l.at PC 0)) → (answered l c octets).link.interval ≡ record { asked = 0; force = l.interval.asked }
  -- "and a negative ack leaves the old one"
  pub old_stays : (l : Link) (c : Call) (octets : List ℕ) (a : AirPdu) → Heard l c octets a → air_event a.kind ≡ of PC negative
      → get_or l.at PC 0 ≡ PENDING → (answered l c octets).link.interval ≡ record { asked = 0; force = l.interval.force }
  -- a plain report in PENDING is no answer
  pub no_answer : (l : Link) (c : Call) (octets : List ℕ) (a : AirPdu) → Heard l c octets a → air_event a.kind ≡ of PC report
      → get_or l.at PC 0 ≡ PENDING → (answered l c octets).link.interval ≡ l.interval
  -- "PC going IDLE both": a good link has no interval there
  pub none_in_idle : (l : Link) → T (good l) → get_or l.at PC 0 ≡ IDLE → l.interval ≡ no_intervals
