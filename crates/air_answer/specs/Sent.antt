-- "A PDU to send stands in the answer itself, so calls never give 6."
use Rattle.std.specs.Prelude.{ℕ, zero, suc, ◌-◌, List, [], ◌++◌, length, replicate, Result, Ok, Err}
use Rattle.refusals.specs.declared.Refusal.{Refusal}
use Rattle.refusals.specs.Refusals.{number}
use Rattle.per.specs.Pdu.{encode}
use Rattle.pdu.specs.declared.downlink.AirPdu.{AirPdu}
use Rattle.pdu.specs.DownlinkTable.{air_c}
use Rattle.air_answer.specs.declared.sent.Sent.{Sent}

-- the octets, and zeros
unfoldable pub sent : List ℕ → Sent
sent s = record { n = length s; octets = s ++ replicate (115 - length s) 0 }

-- what writing a PDU gives: the refusal's number, or 0 and the octets
pub record Outgoing : Type 0 where
  pub refusal : ℕ
  pub sent : Sent

-- the octets of an aircraft PDU, or the refusal of its fields and none
unfoldable pub letter_of : ℕ → List ℕ → Outgoing
letter_of zero s = record { refusal = 0; sent = sent s }
letter_of (suc n) s = record { refusal = suc n; sent = sent [] }

unfoldable pub outgoing : AirPdu → Outgoing
outgoing a = letter_of (air_c.chk a) (encode air_c a)

-- the code's answer: the octets, or the refusal and none
abbrev pub letter : Result Sent Refusal → Outgoing
letter (Ok s) = record { refusal = 0; sent = s }
letter (Err r) = record { refusal = number r; sent = sent [] }
