-- The presence bit of the interval, sent with the default or without it. Assumes nothing.
use Rattle.std.specs.Prelude.{ℕ, zero, suc, ◌+◌, ◌-◌, ◌*◌, ◌/◌, ◌%◌, ◌^◌, ◌≤◌, ◌<◌, ◌≡◌, refl, Bool, true, false, not, ◌&&◌, List, ◌++◌, eqb, leb, length}
use Rattle.std.proofs.Common.{sym, ap, subst, ◌∙◌, mod-eq_of_lt, arith, lit<, length-append, eq-eqb, ne_eqb, eqb-true, leb-true}
use Rattle.std.proofs.lemmas.Bool.{false≢true, eqb-false}
use Rattle.std.specs.Int.Bits.{bit_and, and_zero_r}
use Rattle.std.proofs.lemmas.Nat.{and_block}
use Rattle.std.proofs.lemmas.Nat.Bits.{and_high}
use Rattle.per.specs.Bits.{of_bit, to_bits, width, width_in}
use Rattle.per.specs.laws.Bits.{length-to_bits}
use Rattle.per.specs.Codec.{unless}
use Rattle.per.specs.laws.Codec.{first-0, first-1, first-00, unless-true, unless-le}
use Rattle.per.specs.Shapes.{Other}
use Rattle.per.specs.Formats.{field, dep, only, absent, when, num, has, mask_bad}
use Rattle.pdu_parts.specs.declared.interval.Interval.{Interval}
use Rattle.pdu_parts.specs.declared.interval.Interval.TheVariants.{Seconds, Minutes}
use Rattle.pdu_parts.specs.Interval.{five_minutes, is_five, interval_if, Moduli, moduli_c, periodic_bits, periodic_rest, sent_bits, Parts, parts_c, of_parts, to_parts, elements_bad, default_form}

-- the default is 5 minutes and no other interval
pub five-is : (i : Interval) → is_five i ≡ true → five_minutes ≡ i
five-is (Seconds n) e = absurd (false≢true e)
five-is (Minutes n) e = ap Minutes (sym (eqb-true n 5 e))

-- without the interval's presence bit 7 bits are left
pub low_bits : (e : ℕ) → e ≤ 127 → has 128 e ≡ false
unfolding has
low_bits e l =
    let a : bit_and e 128 ≡ e / 128 % 2 * 128 = and_high e 1 7 in
    let d : e / 128 ≡ 0 = omega arith in
    let z : bit_and e 128 ≡ 0 = a ∙ rw d in
    rw (eq-eqb (bit_and e 128) 0 z)

-- with it, it is set
pub top_set : (e : ℕ) → e ≤ 127 → has 128 (128 + e) ≡ true
unfolding has
top_set e h =
    let a : bit_and (128 + e) 128 ≡ (128 + e) / 128 % 2 * 128 = and_high (128 + e) 1 7 in
    let d : (128 + e) / 128 ≡ 1 = omega arith in
    let m : (128 + e) / 128 % 2 ≡ 1 = ap (λ (n : ℕ). n % 2) d in
    let z : bit_and (128 + e) 128 ≡ 0 → ⊥ = λ q. omega (arith, a, m, q) in
    rw (ne_eqb (bit_and (128 + e) 128) 0 z)

-- it is above those of the moduli
pub has_more : (w e : ℕ) → w < 2 ^ 7 → e ≤ 127 → has w (128 + e) ≡ has w e
unfolding has
has_more w e l h =
    let b : bit_and (1 * 2 ^ 7 + e) (0 * 2 ^ 7 + w) ≡ bit_and 1 0 * 2 ^ 7 + bit_and e w = and_block 7 1 0 e w (omega arith) l in
    let z : 0 * 128 + w ≡ w = omega arith in
    let q : bit_and (128 + e) w ≡ bit_and e w = sym (ap (λ (x : ℕ). bit_and (128 + e) x) z) ∙ b ∙ omega (arith, and_zero_r 1) in
    rw q

-- so the same moduli stand behind the presence bits, with it and without
pub moduli-more : (e : ℕ) → e ≤ 127 → moduli_c (128 + e) ≡ moduli_c e
unfolding moduli_c
moduli-more e l = rw (has_more 64 e (lit< tt) l, has_more 32 e (lit< tt) l, has_more 16 e (lit< tt) l, has_more 8 e (lit< tt) l, has_more 4 e (lit< tt) l)

-- and the same of them are carried
carried-more : (e : ℕ) → e ≤ 127 → bit_and (128 + e) 252 ≡ 128 + e → bit_and e 252 ≡ e
carried-more e l h =
    let a : bit_and (1 * 2 ^ 7 + e) (1 * 2 ^ 7 + 124) ≡ bit_and 1 1 * 2 ^ 7 + bit_and e 124 = and_block 7 1 1 e 124 (omega arith) (lit< tt) in
    let b : bit_and (0 * 2 ^ 7 + e) (1 * 2 ^ 7 + 124) ≡ bit_and 0 1 * 2 ^ 7 + bit_and e 124 = and_block 7 0 1 e 124 (omega arith) (lit< tt) in
    let z : 0 * 128 + e ≡ e = omega arith in
    sym (ap (λ (x : ℕ). bit_and x 252) z) ∙ b ∙ omega (arith, a, h)

not-true : (b : Bool) → not b ≡ true → b ≡ false
not-true true e = sym e
not-true false e = refl

-- where the default was not sent, the presence bit says that the interval is not 5 minutes
interval-bit : (b : Bool) (i : Interval) → (interval_if b).norm i ≡ i → of_bit (b && is_five i) ≡ 0 → is_five i ≡ not b
unfolding interval_if when absent of_bit
interval-bit true i s g = go (is_five i) g
  where
    go : (f : Bool) → of_bit f ≡ 0 → f ≡ false
    go true e = absurd (omega arith)
    go false e = refl
interval-bit false i s g = rw (← s)

-- where it was sent, the bit is set and the interval is 5 minutes
both-set : (b f : Bool) → of_bit (b && f) ≡ 1 → (b ≡ true) × (f ≡ true)
unfolding of_bit
both-set true true e = (refl, refl)
both-set true false e = absurd (omega arith)
both-set false f e = absurd (omega arith)

nonzero : (n : ℕ) → (n ≡ 0 → ⊥) → 0 < n
nonzero zero h = absurd (h refl)
nonzero (suc n) h = omega arith

upper : (v : ℕ) → v ≤ 255 → v / 128 % 2 ≡ v / 128
upper v l = let d : v / 128 ≤ 1 = omega arith in mod-eq_of_lt (omega arith)

-- the highest of eight bits
top_bit : (v : ℕ) → v ≤ 255 → (b : Bool) → has 128 v ≡ b → sent_bits (not b) (v % 128) ≡ v
unfolding has sent_bits
top_bit v l true e =
    let a : bit_and v 128 ≡ v / 128 % 2 * 128 = and_high v 1 7 in
    let z = eqb-false (bit_and v 128) 0 (not-true (eqb (bit_and v 128) 0) e) in
    let w : 0 < v / 128 % 2 = nonzero (v / 128 % 2) (λ q. z (omega (arith, a, q))) in
    let f : v / 128 % 2 ≡ v / 128 = upper v l in
    omega arith
top_bit v l false e =
    let a : bit_and v 128 ≡ v / 128 % 2 * 128 = and_high v 1 7 in
    let z : bit_and v 128 ≡ 0 = eqb-true (bit_and v 128) 0 (not-false (eqb (bit_and v 128) 0) e) in
    let f : v / 128 % 2 ≡ v / 128 = upper v l in
    omega arith
  where
    not-false : (b : Bool) → not b ≡ false → b ≡ true
    not-false true q = refl
    not-false false q = sym q

-- presence bits that may be sent are eight
pub bits_below : (v : ℕ) → periodic_bits.chk v ≡ 0 → v ≤ 255
unfolding only field
bits_below v h =
    let m : (num 0 255).chk v ≡ 0 = first-0 ((num 0 255).chk v) (mask_bad 252 false v) h in
    leb-true v 255 (unless-true (leb v 255) 4 (first-1 (unless (leb 0 v) 5) (unless (leb v 255) 5) m))

pub periodic-left : (p : Parts) → parts_c.chk p ≡ 0 → parts_c.norm p ≡ p → default_form p ≡ 0 → (elements_bad (of_parts p) ≡ 0) × (to_parts (of_parts p) ≡ p)
unfolding dep field only
periodic-left p h s g =
    let v : ℕ = p.0 in
    let i : Interval = p.1.0 in
    let l : v ≤ 255 = bits_below v (first-0 (periodic_bits.chk v) ((periodic_rest v).chk p.1) h) in
    let e : is_five i ≡ not (has 128 v) = interval-bit (has 128 v) i (ap (λ (x : Parts). x.1.0) s) g in
    let n : sent_bits (is_five i) (v % 128) ≡ v = ap (λ (b : Bool). sent_bits b (v % 128)) e ∙ top_bit v l (has 128 v) refl in
    (unless-le (v % 128) 127 5 (omega arith), ap (λ (x : ℕ). (x, p.1)) n)

-- presence bits and the five minutes behind them
abbrev pub with_five : ℕ → Moduli → Parts
with_five e t = (128 + e, (five_minutes, t))

-- what the parts are where the default was sent
pub sent_is : (p : Parts) → parts_c.chk p ≡ 0 → default_form p ≡ 1 → (p.0 % 128 ≤ 127) × (p ≡ with_five (p.0 % 128) p.1.1)
unfolding dep field only sent_bits
sent_is p h g =
    let v : ℕ = p.0 in
    let q = both-set (has 128 v) (is_five p.1.0) g in
    let l : v ≤ 255 = bits_below v (first-0 (periodic_bits.chk v) ((periodic_rest v).chk p.1) h) in
    let n : 128 + v % 128 ≡ v = top_bit v l true q.0 in
    (omega arith, sym (rw (n, five-is p.1.0 q.1)))

-- the bits of parts that may be sent
bits-sent : (v : ℕ) → periodic_bits.chk v ≡ 0 → periodic_bits.enc v ≡ to_bits 8 v
unfolding only field width width_in
bits-sent v h =
    let m : (num 0 255).chk v ≡ 0 = first-0 ((num 0 255).chk v) (mask_bad 252 false v) h in
    let b : mask_bad 252 false v ≡ 0 = first-1 ((num 0 255).chk v) (mask_bad 252 false v) h in
    let z : v - 0 ≡ v = omega arith in
    rw (b, m) (ap (to_bits 8) z)

pub parts-sent : (p : Parts) → parts_c.chk p ≡ 0 → parts_c.enc p ≡ to_bits 8 p.0 ++ ((interval_if (has 128 p.0)).enc p.1.0 ++ (moduli_c p.0).enc p.1.1)
unfolding dep only field
parts-sent p h =
    let v : ℕ = p.0 in
    let b : periodic_bits.chk v ≡ 0 = first-0 (periodic_bits.chk v) ((periodic_rest v).chk p.1) h in
    let r : (periodic_rest v).chk p.1 ≡ 0 = first-1 (periodic_bits.chk v) ((periodic_rest v).chk p.1) h in
    let i : (interval_if (has 128 v)).chk p.1.0 ≡ 0 = first-0 ((interval_if (has 128 v)).chk p.1.0) ((moduli_c v).chk p.1.1) r in
    rw (b, i) (ap (λ (l : List Bool). l ++ ((interval_if (has 128 v)).enc p.1.0 ++ (moduli_c v).enc p.1.1)) (bits-sent v b))

-- the presence bits without that of the interval are those of a contract as well
bits-more : (e : ℕ) → e ≤ 127 → periodic_bits.chk (128 + e) ≡ 0 → periodic_bits.chk e ≡ 0
unfolding only field
bits-more e l h =
    let v : ℕ = 128 + e in
    let b : mask_bad 252 false v ≡ 0 = first-1 ((num 0 255).chk v) (mask_bad 252 false v) h in
    let c : bit_and v 252 ≡ v = eqb-true (bit_and v 252) v (unless-true (eqb (bit_and v 252) v) 9 (first-0 (unless (eqb (bit_and v 252) v) 10) 0 b)) in
    let n : (num 0 255).chk e ≡ 0 = first-00 (unless (leb 0 e) 5) (unless (leb e 255) 5) (unless-le 0 e 5 (omega arith)) (unless-le e 255 5 (omega arith)) in
    let m : mask_bad 252 false e ≡ 0 = rw (eq-eqb (bit_and e 252) e (carried-more e l c)) in
    first-00 ((num 0 255).chk e) (mask_bad 252 false e) n m

-- no interval is sent then
interval-off : (e : ℕ) → e ≤ 127 → interval_if (has 128 e) ≡ absent five_minutes
unfolding interval_if when
interval-off e l = rw (low_bits e l)

-- the parts without the default: they may be sent, and mean the same
pub unsent-good : (e : ℕ) (t : Moduli) → e ≤ 127 → parts_c.chk (with_five e t) ≡ 0 → parts_c.chk (e, (five_minutes, t)) ≡ 0
unfolding dep field only absent
unsent-good e t l h =
    let v : ℕ = 128 + e in
    let b : periodic_bits.chk v ≡ 0 = first-0 (periodic_bits.chk v) ((periodic_rest v).chk (five_minutes, t)) h in
    let r : (periodic_rest v).chk (five_minutes, t) ≡ 0 = first-1 (periodic_bits.chk v) ((periodic_rest v).chk (five_minutes, t)) h in
    let m : (moduli_c v).chk t ≡ 0 = first-1 ((interval_if (has 128 v)).chk five_minutes) ((moduli_c v).chk t) r in
    let q : (periodic_rest e).chk (five_minutes, t) ≡ 0 = rw (interval-off e l, ← moduli-more e l) m in
    first-00 (periodic_bits.chk e) ((periodic_rest e).chk (five_minutes, t)) (bits-more e l b) q

unsent-same : (e : ℕ) (t : Moduli) → e ≤ 127 → parts_c.norm (with_five e t) ≡ with_five e t → parts_c.norm (e, (five_minutes, t)) ≡ (e, (five_minutes, t))
unfolding dep field only absent
unsent-same e t l s =
    let m : (moduli_c (128 + e)).norm t ≡ t = ap (λ (x : Parts). x.1.1) s in
    rw (interval-off e l, ← moduli-more e l, m)

unsent-short : (a b i t : List Bool) → length a ≡ length b → length (a ++ t) ≤ length (b ++ (i ++ t))
unsent-short a b i t e = omega (arith, e, length-append a t, length-append b (i ++ t), length-append i t)

-- the bits with the default, and without
pub apart : (e : ℕ) (t : Moduli) → e ≤ 127 → parts_c.chk (with_five e t) ≡ 0
    → (parts_c.enc (with_five e t) ≡ to_bits 8 (128 + e) ++ ((interval_if (has 128 (128 + e))).enc five_minutes ++ (moduli_c e).enc t))
    × (parts_c.enc (e, (five_minutes, t)) ≡ to_bits 8 e ++ (moduli_c e).enc t)
unfolding absent
apart e t l h =
    let x : (interval_if (has 128 e)).enc five_minutes ++ (moduli_c e).enc t ≡ (moduli_c e).enc t = rw (interval-off e l) in
    (parts-sent (with_five e t) h ∙ rw (moduli-more e l), parts-sent (e, (five_minutes, t)) (unsent-good e t l h) ∙ ap (λ (y : List Bool). to_bits 8 e ++ y) x)

unsent : (e : ℕ) (t : Moduli) → e ≤ 127 → parts_c.chk (with_five e t) ≡ 0 → parts_c.norm (with_five e t) ≡ with_five e t
    → Other parts_c of_parts to_parts elements_bad (with_five e t)
unfolding sent_bits
unsent e t l h s =
    let m : (128 + e) % 128 ≡ e = omega arith in
    let k : e % 128 ≡ e = omega arith in
    let a = apart e t l h in
    let i : List Bool = (interval_if (has 128 (128 + e))).enc five_minutes in
    record {
      good = rw m (first-00 (unless (leb e 127) 5) (parts_c.chk (e, (five_minutes, t))) (unless-le e 127 5 l) (unsent-good e t l h));
      same = rw m (ap of_parts (unsent-same e t l s) ∙ rw k);
      short = rw (m, a.0, a.1) (unsent-short (to_bits 8 e) (to_bits 8 (128 + e)) i ((moduli_c e).enc t) (length-to_bits 8 e ∙ sym (length-to_bits 8 (128 + e))));
    }

pub periodic-other : (p : Parts) → parts_c.chk p ≡ 0 → parts_c.norm p ≡ p → default_form p ≡ 1 → Other parts_c of_parts to_parts elements_bad p
periodic-other p h s g =
    let q = sent_is p h g in
    let x = subst (λ (r : Parts). (parts_c.chk r ≡ 0) × (parts_c.norm r ≡ r)) q.1 (h, s) in
    subst (λ (r : Parts). Other parts_c of_parts to_parts elements_bad r) (sym q.1) (unsent (p.0 % 128) p.1.1 q.0 x.0 x.1)
