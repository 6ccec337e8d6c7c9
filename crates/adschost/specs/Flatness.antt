-- PDUs read into flat numbers, and written from them.
use Rattle.std.specs.Prelude.{◌≡◌, List, ℕ, ltb, length}
use Rattle.std.proofs.lemmas.List.Edits.{sets}
use Rattle.link.specs.Tests.{pick}
use Rattle.per.specs.Written.{Written, Octets, Refused}
use Rattle.per.specs.Pdu.{Answer, got, refused}
use Rattle.per.specs.Writing.{Delivered}
use Rattle.pdu.specs.declared.downlink.AirPdu.{AirPdu}
use Rattle.pdu.specs.declared.uplink.Ground.{Ground}
use Rattle.host_numbers.specs.Places.{A-NUMBERS, G-NUMBERS}
use Rattle.host_numbers.specs.UplinkNumbers.{flat_ground}
use Rattle.host_numbers.specs.DownlinkNumbers.{flat_air}
use Rattle.refusals.specs.Refusals.{NO-ROOM}

-- what reading an aircraft PDU gives a host: the number, its numbers and its list. 6 where they have no room
pub record AirShown : Type 0 where
  pub number : ℕ
  pub numbers : List ℕ
  pub list : List ℕ

unfoldable pub air_shown : Answer AirPdu → List ℕ → List ℕ → AirShown
air_shown (refused n) f l = record { number = n; numbers = f; list = l }
air_shown (got a) f l =
    pick (ltb (length f) A-NUMBERS) (record { number = NO-ROOM; numbers = f; list = l })
    (pick (ltb (length l) 128) (record { number = NO-ROOM; numbers = f; list = l })
    (record { number = 0; numbers = sets f 0 (flat_air a.kind a.list.count); list = sets l 0 a.list.items }))

pub record ShowsAir (d : AirShown) (r : ℕ) (numbers list : List ℕ) : Type 0 where
  pub number_is : r ≡ d.number
  pub numbers_are : numbers ≡ d.numbers
  pub list_is : list ≡ d.list

pub record GroundShown : Type 0 where
  pub number : ℕ
  pub numbers : List ℕ

unfoldable pub ground_shown : Answer Ground → List ℕ → GroundShown
ground_shown (refused n) f = record { number = n; numbers = f }
ground_shown (got g) f =
    pick (ltb (length f) G-NUMBERS) (record { number = NO-ROOM; numbers = f }) (record { number = 0; numbers = sets f 0 (flat_ground g) })

pub record ShowsGround (d : GroundShown) (r : ℕ) (numbers : List ℕ) : Type 0 where
  pub number_is : r ≡ d.number
  pub numbers_are : numbers ≡ d.numbers

-- what writing gives: 0 and how many octets, or the refusal's number and the length that stood there
abbrev pub number_of : Written → ℕ
number_of (Octets n) = 0
number_of (Refused n) = n

abbrev pub length_of : Written → ℕ → ℕ
length_of (Octets n) was = n
length_of (Refused n) was = was

pub record WritesFlat (d : Delivered) (was r : ℕ) (octets : List ℕ) (length : ℕ) : Type 0 where
  pub number_is : r ≡ number_of d.answer
  pub octets_are : octets ≡ d.octets
  pub length_is : length ≡ length_of d.answer was
