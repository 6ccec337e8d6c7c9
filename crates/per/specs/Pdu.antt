-- The octet level: a PDU's bits, filled to an octet with zeros; and what reading and writing a whole PDU gives.
use Rattle.std.specs.Prelude.{ℕ, zero, suc, ◌+◌, ◌-◌, ◌/◌, ◌%◌, Bool, false, List, [], ◌∷◌, ◌++◌, length, take, drop, replicate, eqb, leb}
use Rattle.per.specs.declared.cursor.Cursor.{Cursor}
use Rattle.per.specs.Bits.{num_at, bits_of}
use Rattle.per.specs.Codec.{Codec, first, unless, refuse}
use Rattle.refusals.specs.Refusals.{FILLING, INPUT-OVER, OCTETS-AFTER}

-- how many bits fill n bits to an octet
abbrev pub fill : ℕ → ℕ
fill n = (8 - n % 8) % 8

abbrev pub filled : List Bool → List Bool
filled bs = bs ++ replicate (fill (length bs)) false

-- the first n octets of a list of bits
unfoldable pub pack : ℕ → List Bool → List ℕ
pack zero bs = []
pack (suc n) bs = num_at bs 0 8 ∷ pack n (drop 8 bs)

-- "The PDU is filled to an octet with zeros": the octets of a value
unfoldable pub encode : {A : Type 0} → Codec A → A → List ℕ
encode c a = pack (length (filled (c.enc a)) / 8) (filled (c.enc a))

-- the bits that are read: those of the first 128 octets, since a longer input is refused before any bit of it is read
unfoldable pub window : List ℕ → List Bool
window s = bits_of (take 128 s)

-- refusal 16 comes before everything
unfoldable pub start : List ℕ → Cursor
start s = refuse 0 (unless (leb (length s) 128) INPUT-OVER)

-- after the last field: the filling (13), and octets after the PDU (14)
abbrev pub ending : List Bool → ℕ → ℕ
ending bs at = first (unless (eqb (num_at bs at (fill at)) 0) FILLING) (unless (eqb (at + fill at) (length bs)) OCTETS-AFTER)

unfoldable pub finish : List Bool → Cursor → Cursor
finish bs j = refuse j.at (first j.refusal (ending bs j.at))

-- a value, or the number of a refusal
pub data Answer (A : Type 0) : Type 0 where
  got : A → Answer A
  refused : ℕ → Answer A

abbrev pub answer : {A : Type 0} → ℕ → A → Answer A
answer zero a = got a
answer (suc n) a = refused (suc n)

-- "Reading: 16; then bits as met; then 13, 14"
unfoldable pub read_pdu : {A : Type 0} → Codec A → List ℕ → Answer A
read_pdu c s =
    let r = c.run (window s) (start s) in
    answer (finish (window s) r.next).refusal r.value

-- the form of what stands in a PDU's octets
unfoldable pub form_pdu : {A : Type 0} → Codec A → List ℕ → ℕ
form_pdu c s = c.form (window s) (start s)
