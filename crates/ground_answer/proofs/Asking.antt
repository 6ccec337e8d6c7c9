-- A periodic request whose fields are in range asks for 1 to 7,200 seconds. Assumes nothing.
use Rattle.std.proofs.Common.{◌≡◌, ℕ, zero, suc, ◌≤◌, Bool, true, false, leb, [], ◌∷◌, refl, ap, subst, arith, lit≤, leb-true}
use types.Run.{OneOf, miss}
use denote.Enum.Declared.{tag_of}
use Rattle.per.specs.Codec.{first, unless}
use Rattle.per.specs.laws.Codec.{first-0, first-1, unless-true}
use Rattle.per.specs.Formats.{field, dep, via, recast, only, absent, when, num, has, alt_codec, choice}
use Rattle.per.specs.Pdu.{encode}
use Rattle.pdu_parts.specs.declared.interval.Interval.{Interval}
use Rattle.pdu_parts.specs.declared.interval.Interval.TheVariants.{Seconds, Minutes}
use Rattle.pdu_parts.specs.declared.periodic.Periodic.{Periodic}
use Rattle.pdu_parts.specs.Interval.{interval_c, interval_if, is_five, sent_bits, Moduli, moduli_c, periodic_bits}
use Rattle.pdu_parts.specs.Periodic.{periodic_c}
use Rattle.pdu.specs.contracts.uplink.Ground.{the_type}
use Rattle.pdu.specs.declared.uplink.Ground.{Ground}
use Rattle.pdu.specs.declared.uplink.Ground.TheVariants.{CancelAll, CancelContract, CancelEmergencyAck, DemandContract, EventContract, ModifyEmergency, PeriodicContract, Abort}
use Rattle.pdu.specs.UplinkTable.{ground_alt, ground_c}
use Rattle.pdu.proofs.UplinkNorms.{periodic-norm}
use Rattle.ground_tables.specs.Intervals.{INTERVAL-MOST}
use Rattle.ground_answer.specs.Events.{seconds_of, asks_for}
use Rattle.ground_answer.specs.Sent.{letter_of, outgoing}

-- 1 second to two hours
abbrev Within : ℕ → Type 0
Within n = (1 ≤ n) × (n ≤ INTERVAL-MOST)

in-range : (lo hi n : ℕ) → (num lo hi).chk n ≡ 0 → (lo ≤ n) × (n ≤ hi)
unfolding field
in-range lo hi n h =
    let low = unless (leb lo n) 5 in
    let high = unless (leb n hi) 5 in
    (leb-true lo n (unless-true (leb lo n) 4 (first-0 low high h)), leb-true n hi (unless-true (leb n hi) 4 (first-1 low high h)))

interval-within : (i : Interval) → interval_c.chk i ≡ 0 → Within (seconds_of i)
unfolding interval_c choice alt_codec via dep field
interval-within (Seconds n) h = let r = in-range 1 59 n h in (r.0, omega arith)
interval-within (Minutes n) h = let r = in-range 1 120 n h in (omega arith, omega arith)

-- an interval that is sent is in range, and one that is left out is 5 minutes
sent-within : (there : Bool) (i : Interval) → (interval_if there).chk i ≡ 0 → (interval_if there).norm i ≡ i → Within (seconds_of i)
unfolding interval_if when absent
sent-within true i h e = interval-within i h
sent-within false i h e = subst (λ (x : Interval). Within (seconds_of x)) e (lit≤ tt, lit≤ tt)

periodic-within : (a : Periodic) → periodic_c.chk a ≡ 0 → Within (seconds_of a.interval)
unfolding periodic_c recast dep field only
periodic-within a h =
    let v = sent_bits (is_five a.interval) a.elements in
    let m : Moduli = (a.address, (a.profile, (a.over_ground, (a.air, a.weather)))) in
    let few = unless (leb a.elements 127) 5 in
    let rest = first ((interval_if (has 128 v)).chk a.interval) ((moduli_c v).chk m) in
    let all = first (periodic_bits.chk v) rest in
    let e : a.elements ≤ 127 = leb-true a.elements 127 (unless-true (leb a.elements 127) 4 (first-0 few all h)) in
    let sent = first-0 ((interval_if (has 128 v)).chk a.interval) ((moduli_c v).chk m) (first-1 (periodic_bits.chk v) rest (first-1 few all h)) in
    sent-within (has 128 v) a.interval sent (ap (λ (x : Periodic). x.interval) (periodic-norm a e))

-- what is sent has its fields in range
sent-good : (g : Ground) → (outgoing g).refusal ≡ 0 → ground_c.chk g ≡ 0
unfolding outgoing letter_of
sent-good g = go (ground_c.chk g)
  where
    go : (n : ℕ) → (letter_of n (encode ground_c g)).refusal ≡ 0 → n ≡ 0
    go zero h = h
    go (suc n) h = h

-- any other request asks for none
pub asks_none : (g : Ground) → OneOf (0 ∷ 1 ∷ 2 ∷ 3 ∷ 4 ∷ 5 ∷ 7 ∷ []) (tag_of the_type g) → 0 ≡ asks_for g
unfolding asks_for
asks_none CancelAll h = refl
asks_none (CancelContract n) h = refl
asks_none CancelEmergencyAck h = refl
asks_none (DemandContract v) h = refl
asks_none (EventContract v) h = refl
asks_none (ModifyEmergency i) h = refl
asks_none (PeriodicContract a) h = absurd (miss (0 ∷ 1 ∷ 2 ∷ 3 ∷ 4 ∷ 5 ∷ 7 ∷ []) 6 tt h)
asks_none (Abort n) h = refl

pub asks-within : (a : Periodic) → (outgoing (PeriodicContract a)).refusal ≡ 0 → Within (seconds_of a.interval)
unfolding ground_c ground_alt choice alt_codec via dep field
asks-within a h = periodic-within a (sent-good (PeriodicContract a) h)
