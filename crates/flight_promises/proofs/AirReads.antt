-- What the aircraft sends reads well on the ground. Assumes nothing.
use mathlib.Core.Path.{◌≡◌, refl, ap, ◌∙◌}
use mathlib.Core.Bool.{Bool, true, false}
use mathlib.Core.List.{List}
use Prim.Native.Nat.{ℕ, zero, suc, ◌-◌, ◌≤◌}
use native.Mathlib.Omega.{arith}
use borrow.Author.Tests.{eqb-true, le-leb}
use lib.Dec.{eqb, leb}
use lib.ListN.{length, take, replicate}
use lib.Seq.{take-append_seam}
use Rattle.text.specs.Text.{pick, both}
use Rattle.per.specs.Formats.{via, dep, field, choice, alt_codec, absent}
use Rattle.per.specs.Pdu.{got, encode, read_pdu}
use Rattle.per.proofs.RoundTrip.{length-encode}
use Rattle.pdu.specs.declared.downlink.Air.TheVariants.{Positive, Abort}
use Rattle.pdu.specs.declared.downlink.AirPdu.{AirPdu}
use Rattle.pdu.specs.DownlinkTable.{bare_air, air_alt, air_c}
use Rattle.pdu.proofs.Promises.{air-written}
use Rattle.pdu.proofs.DownlinkBounds.{air-most}
use Rattle.pdu.proofs.DownlinkNorms.{air-norm}
use Rattle.pdu_parts.specs.Lists.{no_list}
use Rattle.air_answer.specs.Sent.{sent, letter_of, outgoing}
use Rattle.ground_answer.specs.Events.{reason_in}
use Rattle.sending.specs.Ways.{kind_of}
use Rattle.flight_promises.specs.Fitting.{down_reads, down_fits}

pub down-short : (a : AirPdu) → length (encode air_c a) ≤ 115
down-short a = omega (arith, length-encode air_c a, air-most.bits a)

-- the test of an entry with its octets
unfoldable pub down_goes : ℕ → List ℕ → Bool
down_goes c s = down_fits (kind_of c s) s

module _ (a : AirPdu) (h : air_c.chk a ≡ 0) where
  pub starts-well : down_goes 1 (encode air_c a) ≡ true
  unfolding down_goes down_fits down_reads kind_of
  starts-well = ap (down_reads 1) (air-written a h)

  pub data-well : down_goes 2 (encode air_c a) ≡ true
  unfolding down_goes down_fits down_reads kind_of
  data-well = ap (down_reads 2) (air-written a h)

-- of an end response no octets are heard
pub ends-well : (s : List ℕ) → down_goes 3 s ≡ true
unfolding down_goes down_fits kind_of
ends-well s = refl

abort-by : (b : Bool) (s : List ℕ) → down_reads 4 (read_pdu air_c s) ≡ true → down_fits (pick (both true b) 5 4) s ≡ true
unfolding down_fits
abort-by true s h = refl
abort-by false s h = h

pub aborts-well : (n : ℕ) → air_c.chk (bare_air (Abort n)) ≡ 0 → eqb n 2 ≡ false → down_goes 4 (encode air_c (bare_air (Abort n))) ≡ true
unfolding down_goes kind_of down_reads reason_in
aborts-well n h r =
    let s = encode air_c (bare_air (Abort n)) in
    abort-by (eqb (length s) 0) s (ap (down_reads 4) (air-written (bare_air (Abort n)) h) ∙ ap (λ (x : AirPdu). down_reads 4 (got x)) (air-norm (Abort n) no_list) ∙ rw r)

-- the octets of an answer
pub sent_is : (s : List ℕ) → take (sent s).n (sent s).octets ≡ s
unfolding sent
sent_is s = take-append_seam s (replicate (115 - length s) 0)

pub goes-out : (a : AirPdu) → air_c.chk a ≡ 0 → (outgoing a).sent ≡ sent (encode air_c a)
unfolding outgoing letter_of
goes-out a h = rw h

pub no-refusal : (a : AirPdu) → eqb (outgoing a).refusal 0 ≡ true → air_c.chk a ≡ 0
unfolding outgoing letter_of
no-refusal a h = go (air_c.chk a) h
  where
    go : (n : ℕ) → eqb (letter_of n (encode air_c a)).refusal 0 ≡ true → n ≡ 0
    go zero e = refl
    go (suc n) e = eqb-true (suc n) 0 e

-- the PDUs that the aircraft sends of itself
pub may-ack : (n : ℕ) → leb n 7 ≡ true → air_c.chk (bare_air (Positive n)) ≡ 0
unfolding air_c air_alt via dep field choice alt_codec absent
may-ack n h = rw (le-leb 0 n (omega arith), h)

pub may-abort : (n : ℕ) → leb n 7 ≡ true → air_c.chk (bare_air (Abort n)) ≡ 0
unfolding air_c air_alt via dep field choice alt_codec absent
may-abort n h = rw (le-leb 0 n (omega arith), h)
