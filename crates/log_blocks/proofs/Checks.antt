-- One octet changed is one that the check shows: 65521 is no product of a number below 256 and one up to 510. Assumes nothing.
use Prim.Native.Nat.{ℕ, zero, suc, ◌+◌, ◌-◌, ◌*◌, ◌%◌, ◌≤◌, ◌<◌}
use mathlib.Core.Path.{◌≡◌, refl, sym, ap, subst, ◌∙◌}
use mathlib.Core.Bool.{Bool, true, false}
use mathlib.Core.List.{List, [], ◌∷◌}
use native.Mathlib.Omega.{arith}
use native.Mathlib.Nat.{mul-mod_right, mul-le-mul_right, add-mul}
use borrow.Author.Tests.{eq-eqb, ne_eqb, ltb-true, ltb-false}
use lib.Dec.{ltb}
use lib.ListN.{length, get_or, take, set, length-set}
use lib.Seq.{get_or-set_same, get_or-set_other, take-set-lt, take-set-le, get_or-take, length-take-le}
use Rattle.refusals.specs.Refusals.{CHECK-WRONG}
use Rattle.link.specs.Tests.{pick}
use Rattle.link.proofs.Laws.{below_at, T-eq}
use Rattle.octets.specs.Octets.{pair_at, Octets}
use Rattle.octets.specs.laws.Runs.{octets-take}
use Rattle.log_blocks.specs.Block.{modulus, weighted, check_of, judged}
use Rattle.log_blocks.specs.Log.{Form, bad, read_block}
use Rattle.log_blocks.proofs.Blocks.{Sound, sound}

abbrev leaves : ℕ → Bool
leaves d = pick (ltb d 2) true (ltb 0 (modulus % d))

no-divisor : (d : ℕ) → 2 ≤ d → d < 256 → 0 < modulus % d
no-divisor d h k = go (ltb d 2) refl (T-eq (leaves d) (below_at 256 leaves tt d k))
  where
    go : (c : Bool) → ltb d 2 ≡ c → pick c true (ltb 0 (modulus % d)) ≡ true → 0 < modulus % d
    go true e t = absurd (omega (arith, ltb-true d 2 e, h))
    go false e t = ltb-true _ _ t

no-product : (d j : ℕ) → 0 < d → d < 256 → j ≤ 510 → d * j ≡ modulus → ⊥
no-product d j h k l e = go (ltb d 2) refl
  where
    go : (c : Bool) → ltb d 2 ≡ c → ⊥
    go true f =
        let u : d ≡ 1 = omega (arith, ltb-true d 2 f) in
        let v : 1 * j ≡ modulus = rw (← u) e in
        omega (arith, v)
    go false f =
        let u = no-divisor d (ltb-false d 2 f) k in
        let v : modulus % d ≡ 0 = rw (← e) (mul-mod_right d j) in
        omega (arith, u, v)

-- ---- the sum with one octet changed
weighted-set : (s : List ℕ) (i k v : ℕ) → k < length s → weighted i (set s k v) + get_or s k 0 * (i + k) ≡ weighted i s + v * (i + k)
weighted-set [] i k v h = absurd (omega (arith, h))
weighted-set (x ∷ s) i zero v h = let e : i + 0 ≡ i = omega arith in rw e (omega arith)
weighted-set (x ∷ s) i (suc k) v h = let e : i + suc k ≡ i + 1 + k = omega arith in rw e (omega (arith, weighted-set s (i + 1) k v (omega (arith, h))))

-- two sums that differ by a product
apart : (w u d j : ℕ) → 0 < d → d < 256 → 0 < j → j ≤ 510 → u ≡ w + d * j → (1 + u) % modulus ≡ (1 + w) % modulus → ⊥
apart w u d j h k l m e f =
    let a : d * j ≤ 255 * j = mul-le-mul_right j (omega (arith, k)) in
    let b : 1 * j ≤ d * j = mul-le-mul_right j h in
    no-product d j h k m (omega (arith, a, b, e, f, l, m))

module _ (s : List ℕ) (k v : ℕ) (o : Octets s) (b : v < 256) (l : length s ≤ 510) (h : k < length s) where
  abbrev x : ℕ
  x = get_or s k 0

  abbrev j : ℕ
  j = 1 + k

  check-less : v < x → check_of (set s k v) ≡ check_of s → ⊥
  unfolding check_of
  check-less p e =
      let t : v + (x - v) ≡ x = omega (arith, p) in
      let m : x * j ≡ v * j + (x - v) * j = ap (λ (y : ℕ). y * j) (sym t) ∙ add-mul v (x - v) j in
      apart (weighted 1 (set s k v)) (weighted 1 s) (x - v) j (omega (arith, p)) (omega (arith, o k)) (omega arith) (omega (arith, h, l)) (omega (arith, weighted-set s 1 k v h, m)) (sym e)

  check-more : x < v → check_of (set s k v) ≡ check_of s → ⊥
  unfolding check_of
  check-more p e =
      let t : x + (v - x) ≡ v = omega (arith, p) in
      let m : v * j ≡ x * j + (v - x) * j = ap (λ (y : ℕ). y * j) (sym t) ∙ add-mul x (v - x) j in
      apart (weighted 1 s) (weighted 1 (set s k v)) (v - x) j (omega (arith, p)) (omega (arith, b)) (omega arith) (omega (arith, h, l)) (omega (arith, weighted-set s 1 k v h, m)) e

  check-apart : (v ≡ x → ⊥) → check_of (set s k v) ≡ check_of s → ⊥
  check-apart n e = go (ltb v x) (ltb x v) refl refl
    where
      go : (c d : Bool) → ltb v x ≡ c → ltb x v ≡ d → ⊥
      go true d f g = check-less (ltb-true v x f) e
      go false true f g = check-more (ltb-true x v g) e
      go false false f g = n (omega (arith, ltb-false v x f, ltb-false x v g))

-- ---- a block with one octet changed
module _ (top n : ℕ) (b : List ℕ) (o : Octets b) (s : Sound top n b) (k v : ℕ) (small : v < 256) (other : v ≡ get_or b k 0 → ⊥) where
  changed-front : k < 510 → pair_at (set b k v) 510 ≡ check_of (take 510 (set b k v)) → ⊥
  changed-front h e =
      let long : length (take 510 b) ≡ 510 = length-take-le 510 b (omega (arith, s.long)) in
      let same : get_or (take 510 b) k 0 ≡ get_or b k 0 = get_or-take 510 b k 0 h in
      let a : get_or (set b k v) 510 0 ≡ get_or b 510 0 = get_or-set_other b k 510 v 0 (λ f. omega (arith, f, h)) in
      let c : get_or (set b k v) 511 0 ≡ get_or b 511 0 = get_or-set_other b k 511 v 0 (λ f. omega (arith, f, h)) in
      let t : take 510 (set b k v) ≡ set (take 510 b) k v = take-set-lt 510 b k v h in
      let was : pair_at (set b k v) 510 ≡ check_of (take 510 b) = rw (a, c) s.check in
      check-apart (take 510 b) k v (octets-take 510 b o) small (omega (arith, long)) (omega (arith, long, h)) (λ f. other (f ∙ same))
      (ap check_of (sym t) ∙ sym e ∙ was)

  changed-check : 510 ≤ k → k < 512 → pair_at (set b k v) 510 ≡ check_of (take 510 (set b k v)) → ⊥
  changed-check h l e =
      let t : take 510 (set b k v) ≡ take 510 b = take-set-le 510 b k v h in
      let is : pair_at (set b k v) 510 ≡ pair_at b 510 = e ∙ ap check_of t ∙ sym s.check in
      go (ltb k 511) refl is
    where
      go : (c : Bool) → ltb k 511 ≡ c → pair_at (set b k v) 510 ≡ pair_at b 510 → ⊥
      go true f g =
          let z : k ≡ 510 = omega (arith, ltb-true k 511 f, h) in
          let p : get_or (set b k v) 510 0 ≡ v = subst (λ (i : ℕ). get_or (set b k v) i 0 ≡ v) z (get_or-set_same b k v 0 (omega (arith, s.long, l))) in
          let q : get_or (set b k v) 511 0 ≡ get_or b 511 0 = get_or-set_other b k 511 v 0 (λ x. omega (arith, x, z)) in
          let r : get_or b k 0 ≡ get_or b 510 0 = ap (λ (i : ℕ). get_or b i 0) z in
          other (omega (arith, g, p, q, r))
      go false f g =
          let y : k ≡ 511 = omega (arith, ltb-false k 511 f, l) in
          let p : get_or (set b k v) 511 0 ≡ v = subst (λ (i : ℕ). get_or (set b k v) i 0 ≡ v) y (get_or-set_same b k v 0 (omega (arith, s.long, l))) in
          let q : get_or (set b k v) 510 0 ≡ get_or b 510 0 = get_or-set_other b k 510 v 0 (λ x. omega (arith, x, y)) in
          let r : get_or b k 0 ≡ get_or b 511 0 = ap (λ (i : ℕ). get_or b i 0) y in
          other (omega (arith, g, p, q, r))

  changed : k < 512 → pair_at (set b k v) 510 ≡ check_of (take 510 (set b k v)) → ⊥
  changed l e = go (ltb k 510) refl
    where
      go : (c : Bool) → ltb k 510 ≡ c → ⊥
      go true f = changed-front (ltb-true k 510 f) e
      go false f = changed-check (ltb-false k 510 f) l e

-- (b) whatever number is due
pub changed-judged : (top n due m : ℕ) (b : List ℕ) (k v : ℕ) → Octets b → judged top n b ≡ 0 → k < 512 → v < 256 → (v ≡ get_or b k 0 → ⊥)
    → judged due m (set b k v) ≡ CHECK-WRONG
unfolding judged
changed-judged top n due m b k v o j l h other =
    let s = sound top n b j in
    let long : length (set b k v) ≡ 512 = length-set b k v ∙ s.long in
    rw (eq-eqb (length (set b k v)) 512 long, ne_eqb _ _ (changed top n b o s k v h other l))

pub changed-reads : {R : Type 0} (F : Form R) (n m : ℕ) (b : List ℕ) (k v : ℕ) → Octets b → judged F.top n b ≡ 0 → k < 512 → v < 256 → (v ≡ get_or b k 0 → ⊥)
    → read_block F m (set b k v) ≡ bad CHECK-WRONG
unfolding read_block
changed-reads F n m b k v o j l h other = rw (changed-judged F.top n F.top m b k v o j l h other)
