-- The promises of reading and writing, over the whole of both tables. Assumes nothing.
use Prim.Native.Nat.{ℕ, ◌-◌, ◌/◌, ◌≤◌, ◌<◌}
use mathlib.Core.Path.{◌≡◌, refl, sym, ap, ◌∙◌}
use mathlib.Core.Bool.{Bool, true, false, cond}
use mathlib.Core.List.{List}
use native.Mathlib.Omega.{arith}
use lib.Dec.{lit≤}
use lib.ListN.{length, get_or}
use Rattle.per.specs.Bits.{of_bit, bits_of}
use Rattle.per.specs.Codec.{Codec, place}
use Rattle.per.specs.Pdu.{pack, filled, encode, got, read_pdu}
use Rattle.per.proofs.Longest.{Most, up}
use Rattle.per.proofs.RoundTrip.{written, read, read_kept, read-own, got-run, form-is, length-encode}
use Rattle.per.proofs.Octets.{length-bits_of}
use Rattle.pdu.specs.declared.uplink.Ground.{Ground}
use Rattle.pdu.specs.UplinkTable.{ground_c}
use Rattle.pdu.proofs.UplinkBounds.{ground-within, ground-most}
use Rattle.pdu.specs.Default.{default_sent, without_default, written_back}
use Rattle.pdu.proofs.Default.{ground-form, ground-without}
use Rattle.pdu.specs.declared.downlink.AirPdu.{AirPdu}
use Rattle.pdu.specs.DownlinkTable.{air_c}
use Rattle.pdu.proofs.DownlinkBounds.{air-own, air-most}

-- no PDU is over 128 octets
short : {A : Type 0} (c : Codec A) → Most 1024 c → (a : A) → length (encode c a) ≤ 128
short c m a = omega (arith, length-encode c a, m.bits a)

-- every value written reads back the same, absent parts as 0
pub air-written : (a : AirPdu) → air_c.chk a ≡ 0 → read_pdu air_c (encode air_c a) ≡ got (air_c.norm a)
air-written a h = written air_c a h (short air_c (up (lit≤ tt) air-most) a)

pub ground-written : (g : Ground) → ground_c.chk g ≡ 0 → read_pdu ground_c (encode ground_c g) ≡ got (ground_c.norm g)
ground-written g h = written ground_c g h (short ground_c (up (lit≤ tt) ground-most) g)

-- where the default was sent, the octets that are written
without : (s : List ℕ) (g : Ground) → read_pdu ground_c s ≡ got g → default_sent (bits_of s) g ≡ true → encode ground_c g ≡ pack (length s - 1) (without_default (bits_of s))
unfolding encode
without s g h q =
    let bs : List Bool = bits_of s in
    let r = got-run ground_c s g h in
    let w = ground-without bs r.1 r.2 (ap (default_sent bs) r.3 ∙ q) in
    let l : List Bool = without_default bs in
    let e : filled (ground_c.enc g) ≡ l = ap (λ (x : Ground). filled (ground_c.enc x)) (sym r.3) ∙ w.0 in
    let n : length l / 8 ≡ length s - 1 = omega (arith, w.1, length-bits_of s) in
    ap (λ (x : List Bool). pack (length x / 8) x) e ∙ ap (λ (m : ℕ). pack m l) n

-- every octet string accepted writes back the same: its value may be written, has no absent part that is not 0, and has those octets.
-- So reading never takes octets that writing would not make
pub air-read : (s : List ℕ) (a : AirPdu) → ((i : ℕ) → get_or s i 0 < 256) → read_pdu air_c s ≡ got a → (air_c.chk a ≡ 0) × (air_c.norm a ≡ a) × (encode air_c a ≡ s)
air-read = read air_c air-own

-- the same of the ground table, unless the default was sent: then to the form without it
pub ground-read : (s : List ℕ) (g : Ground) → ((i : ℕ) → get_or s i 0 < 256) → read_pdu ground_c s ≡ got g
    → (ground_c.chk g ≡ 0) × (ground_c.norm g ≡ g) × (encode ground_c g ≡ written_back s g)
unfolding of_bit
ground-read s g o h =
    let r = got-run ground_c s g h in
    let k = read_kept ground_c s g h (rw (form-is ground_c s r.0) (ground-within.most (bits_of s) (place 0))) in
    (k.0, k.1, go (default_sent (bits_of s) g) refl)
  where
    go : (b : Bool) → default_sent (bits_of s) g ≡ b → encode ground_c g ≡ cond b (pack (length s - 1) (without_default (bits_of s))) s
    go true q = without s g h q
    go false q =
        let r = got-run ground_c s g h in
        let z : of_bit (default_sent (bits_of s) (ground_c.run (bits_of s) (place 0)).value) ≡ 0 = ap (λ (x : Ground). of_bit (default_sent (bits_of s) x)) r.3 ∙ ap of_bit q in
        read-own ground_c s g o h (form-is ground_c s r.0 ∙ ground-form (bits_of s) r.1 ∙ z)
