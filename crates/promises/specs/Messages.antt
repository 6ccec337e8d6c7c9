-- Demand 2, of messages: "Reading and writing follow unaligned PER (X.691) over the message table". The table is `air_c` and `ground_c`, line by line after 01; what
-- reading and writing give is `read_pdu` and `write_pdu` of it, for every input (contracts of pdu/src/lib.rt).
use Rattle.std.specs.Prelude.{◌≡◌, List, [], ◌∷◌, true, false, ℕ, ◌-◌, length, T}
use Rattle.octets.specs.Octets.{Octets}
use Rattle.per.specs.Bits.{bits_of}
use Rattle.per.specs.Codec.{Codec}
use Rattle.per.specs.Pdu.{pack, encode, read_pdu, got, refused}
use Rattle.pdu.specs.declared.uplink.Ground.{Ground}
use Rattle.pdu.specs.UplinkTable.{ground_c}
use Rattle.pdu.specs.Default.{default_sent, without_default}
use Rattle.pdu.specs.DownlinkTable.{air_c}
use Rattle.sides.specs.Tables.{member}
use Rattle.refusals.specs.Refusals.{CUT-SHORT, ABOVE-RANGE, EXTENSION-SET, NOT-CARRIED, FILLING, OCTETS-AFTER, NO-ELEMENT, INPUT-OVER}

pub record BothWays {A : Type 0} (table : Codec A) : Type 0 where
  -- "every value written reads back the same": what is absent reads as 0, or as the default, and is no part of the value
  pub written : (a : A) → table.chk a ≡ 0 → read_pdu table (encode table a) ≡ got (table.norm a)
  -- "and every octet string accepted writes back the same": its value may be written, has no part that is not sent, and has those octets
  pub accepted : (s : List ℕ) (a : A) → Octets s → read_pdu table s ≡ got a → (table.chk a ≡ 0) × (table.norm a ≡ a) × (encode table a ≡ s)

-- 01, "Refusal numbers", those by which a ground PDU is not read: "Refusals: 11 retired, its number not used again" (L5)
abbrev pub unread : List ℕ
unread = CUT-SHORT ∷ ABOVE-RANGE ∷ EXTENSION-SET ∷ NOT-CARRIED ∷ FILLING ∷ OCTETS-AFTER ∷ NO-ELEMENT ∷ INPUT-OVER ∷ []

-- L5, of the ground table. The five minutes were sent where a periodic contract of 5 minutes came with its sixth bit set (`default_sent`)
pub record GroundWays : Type 0 where
  -- "a value written reads back the same"
  pub written : (g : Ground) → ground_c.chk g ≡ 0 → read_pdu ground_c (encode ground_c g) ≡ got (ground_c.norm g)
  -- "octets accepted write back to the same octets unless the default was sent": whatever was sent, its value may be written, and has no part that is not sent
  pub accepted : (s : List ℕ) (g : Ground) → Octets s → read_pdu ground_c s ≡ got g
      → (ground_c.chk g ≡ 0) × (ground_c.norm g ≡ g) × (default_sent (bits_of s) g ≡ false → encode ground_c g ≡ s)
  -- "and then to the form without it": one octet less, the interval's presence bit and its eight bits left out (`without_default`)
  pub omitted : (s : List ℕ) (g : Ground) → Octets s → read_pdu ground_c s ≡ got g → default_sent (bits_of s) g ≡ true
      → encode ground_c g ≡ pack (length s - 1) (without_default (bits_of s))
  -- every other octet string is refused by a number of the page
  pub refuses : (s : List ℕ) (n : ℕ) → read_pdu ground_c s ≡ refused n → T (member n unread)

pub record Messages : Type 0 where
  pub air : BothWays air_c
  pub ground : GroundWays
