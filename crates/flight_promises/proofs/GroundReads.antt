-- What the ground sends reads well in the aircraft. Assumes nothing.
use mathlib.Core.Path.{◌≡◌, refl, ap, ◌∙◌}
use mathlib.Core.Bool.{Bool, true, false}
use mathlib.Core.List.{List}
use Prim.Native.Nat.{ℕ, zero, suc, ◌-◌, ◌≤◌}
use native.Mathlib.Omega.{arith}
use borrow.Author.Tests.{eqb-true, le-leb}
use lib.Dec.{eqb, leb}
use lib.ListN.{length, take, replicate}
use lib.Seq.{take-append_seam}
use Rattle.text.specs.Text.{pick, both}
use Rattle.per.specs.Formats.{via, dep, field, choice, alt_codec, absent}
use Rattle.per.specs.Pdu.{got, encode, read_pdu}
use Rattle.per.proofs.RoundTrip.{length-encode}
use Rattle.pdu.specs.declared.uplink.Ground.{Ground}
use Rattle.pdu.specs.declared.uplink.Ground.TheVariants.{CancelAll, CancelContract, CancelEmergencyAck, DemandContract, EventContract, ModifyEmergency, PeriodicContract, Abort}
use Rattle.pdu.specs.UplinkTable.{ground_alt, ground_c}
use Rattle.pdu.proofs.Promises.{ground-written}
use Rattle.pdu.proofs.UplinkBounds.{ground-most}
use Rattle.pdu.proofs.UplinkNorms.{ground-norm, ground-periodic-norm, ground-event-norm}
use Rattle.ground_answer.specs.Sent.{SENT-MOST, sent, letter_of, outgoing}
use Rattle.air_answer.specs.Events.{uplink_event, reason_in}
use Rattle.sending.specs.Ways.{kind_of}
use Rattle.flight_promises.specs.Fitting.{up_reads, up_fits}

-- absent parts of a value matter to no test
up_same : (kind : ℕ) (g : Ground) → up_reads kind (got (ground_c.norm g)) ≡ up_reads kind (got g)
unfolding up_reads uplink_event reason_in
up_same kind CancelAll = ap (λ (x : Ground). up_reads kind (got x)) (ground-norm CancelAll (λ e. absurd (omega (arith, e))) (λ e. absurd (omega (arith, e))))
up_same kind (CancelContract n) = ap (λ (x : Ground). up_reads kind (got x)) (ground-norm (CancelContract n) (λ e. absurd (omega (arith, e))) (λ e. absurd (omega (arith, e))))
up_same kind CancelEmergencyAck = ap (λ (x : Ground). up_reads kind (got x)) (ground-norm CancelEmergencyAck (λ e. absurd (omega (arith, e))) (λ e. absurd (omega (arith, e))))
up_same kind (DemandContract v) = ap (λ (x : Ground). up_reads kind (got x)) (ground-norm (DemandContract v) (λ e. absurd (omega (arith, e))) (λ e. absurd (omega (arith, e))))
up_same kind (EventContract v) = ap (λ (x : Ground). up_reads kind (got x)) (ground-event-norm v)
up_same kind (ModifyEmergency i) = ap (λ (x : Ground). up_reads kind (got x)) (ground-norm (ModifyEmergency i) (λ e. absurd (omega (arith, e))) (λ e. absurd (omega (arith, e))))
up_same kind (PeriodicContract a) = ap (λ (x : Ground). up_reads kind (got x)) (ground-periodic-norm a)
up_same kind (Abort n) = ap (λ (x : Ground). up_reads kind (got x)) (ground-norm (Abort n) (λ e. absurd (omega (arith, e))) (λ e. absurd (omega (arith, e))))

pub up-reads : (kind : ℕ) (g : Ground) → ground_c.chk g ≡ 0 → up_reads kind (read_pdu ground_c (encode ground_c g)) ≡ up_reads kind (got g)
up-reads kind g h = ap (up_reads kind) (ground-written g h) ∙ up_same kind g

pub up-short : (g : Ground) → length (encode ground_c g) ≤ 115
up-short g = omega (arith, length-encode ground_c g, ground-most.bits g)

-- the test of an entry with its octets
unfoldable pub up_goes : ℕ → List ℕ → Bool
up_goes c s = up_fits (kind_of c s) s

-- an end, with a PDU or without one
end_by : (b x : Bool) → x ≡ true → pick (both true b) true x ≡ true
end_by true x h = refl
end_by false x h = h

abort-by : (b : Bool) (s : List ℕ) → up_reads 4 (read_pdu ground_c s) ≡ true → up_fits (pick (both true b) 5 4) s ≡ true
unfolding up_fits
abort-by true s h = refl
abort-by false s h = h

module _ (g : Ground) (h : ground_c.chk g ≡ 0) where
  pub starts-well : up_reads 1 (got g) ≡ true → up_goes 1 (encode ground_c g) ≡ true
  unfolding up_goes up_fits kind_of
  starts-well r = up-reads 1 g h ∙ r

  pub data-well : up_reads 2 (got g) ≡ true → up_goes 2 (encode ground_c g) ≡ true
  unfolding up_goes up_fits kind_of
  data-well r = up-reads 2 g h ∙ r

  pub ends-well : up_reads 3 (got g) ≡ true → up_goes 3 (encode ground_c g) ≡ true
  unfolding up_goes up_fits kind_of
  ends-well r = end_by (eqb (length (encode ground_c g)) 0) _ (up-reads 3 g h ∙ r)

  pub aborts-well : up_reads 4 (got g) ≡ true → up_goes 4 (encode ground_c g) ≡ true
  unfolding up_goes kind_of
  aborts-well r = abort-by (eqb (length (encode ground_c g)) 0) (encode ground_c g) (up-reads 4 g h ∙ r)

-- the octets of an answer
pub sent_is : (s : List ℕ) → take (sent s).n (sent s).octets ≡ s
unfolding sent
sent_is s = take-append_seam s (replicate (SENT-MOST - length s) 0)

pub goes-out : (g : Ground) → ground_c.chk g ≡ 0 → (outgoing g).sent ≡ sent (encode ground_c g)
unfolding outgoing letter_of
goes-out g h = rw h

pub no-refusal : (g : Ground) → eqb (outgoing g).refusal 0 ≡ true → ground_c.chk g ≡ 0
unfolding outgoing letter_of
no-refusal g h = go (ground_c.chk g) h
  where
    go : (n : ℕ) → eqb (letter_of n (encode ground_c g)).refusal 0 ≡ true → n ≡ 0
    go zero e = refl
    go (suc n) e = eqb-true (suc n) 0 e

-- the PDUs that the ground sends of itself
pub may-cancel : ground_c.chk CancelAll ≡ 0
unfolding ground_c ground_alt via dep field choice alt_codec absent
may-cancel = refl

pub may-ack : ground_c.chk CancelEmergencyAck ≡ 0
unfolding ground_c ground_alt via dep field choice alt_codec absent
may-ack = refl

pub may-abort : (n : ℕ) → leb n 7 ≡ true → ground_c.chk (Abort n) ≡ 0
unfolding ground_c ground_alt via dep field choice alt_codec absent
may-abort n h = rw (le-leb 0 n (omega arith), h)
