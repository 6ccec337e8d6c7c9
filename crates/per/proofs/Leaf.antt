-- How the code reads one field: `take`, and then the field's judgement. One law for each way out, for every field. Assumes nothing.
use Prim.Native.Nat.{ℕ, zero, suc, ◌+◌, ◌-◌, ◌≤◌, ◌<◌, ◌^◌}
use mathlib.Core.Path.{◌≡◌, refl, sym, ap, subst, ◌∙◌}
use mathlib.Core.Bool.{Bool, true, false, cond, not, false≢true}
use mathlib.Core.List.{List}
use native.Mathlib.Nat.{lt_of_lt_of_le}
use native.Mathlib.Omega.{arith}
use lib.ListN.{length}
use lib.Dec.{eqb, leb, ltb, eqb-suc-zero}
use lib.Pow.{pow_mono}
use borrow.Author.Tests.{eq-eqb, le-leb, lt-leb, eqb-true, eqb-false, leb-true, ltb-true, ltb-false}
use Rattle.per.specs.declared.cursor.Cursor.{Cursor}
use Rattle.per.specs.declared.cursor.Read.{Read}
use Rattle.per.specs.Bits.{num_at}
use Rattle.per.specs.laws.Bits.{num_at-lt}
use Rattle.per.specs.Codec.{Codec, Out, out, place, refuse, unless}
use Rattle.per.specs.Field.{Field, settle}
use Rattle.per.specs.Formats.{field, run}
use Rattle.per.specs.Pdu.{window}
use Rattle.per.specs.Reading.{Reads}
use Rattle.per.specs.ReadingInner.{settled}

-- a cursor that holds a refusal is kept, by every codec
pub reads_kept : {A : Type 0} (c : Codec A) (s : List ℕ) (j : Cursor) → (j.refusal ≡ 0 → ⊥) → Reads c s j c.none j
reads_kept c s j h = let e = c.stuck (window s) j h in record { value_is = rw e; next_is = rw e }

-- ---- `take`
pub take-kept : (s : List ℕ) (j : Cursor) (w : ℕ) → (j.refusal ≡ 0 → ⊥) → Reads (run w) s j 0 j
unfolding field
take-kept s j w h = reads_kept (run w) s j h

pub take_short : (s : List ℕ) (j : Cursor) (w : ℕ) → j.refusal ≡ 0 → length (window s) - j.at < w → Reads (run w) s j 0 (refuse j.at 7)
unfolding field
take_short s j w z h =
    let e = eq-eqb j.refusal 0 z in
    let l = lt-leb w (length (window s) - j.at) h in
    record { value_is = rw (e, l); next_is = rw (e, l) }

pub take-wide : (s : List ℕ) (j : Cursor) (w : ℕ) → j.refusal ≡ 0 → w ≤ length (window s) - j.at → 32 < w → Reads (run w) s j 0 (refuse j.at 8)
unfolding field
take-wide s j w z h o =
    let e = eq-eqb j.refusal 0 z in
    let l = le-leb w (length (window s) - j.at) h in
    let m = lt-leb w 32 o in
    record { value_is = rw (e, l, m); next_is = rw (e, l, m) }

pub take-good : (s : List ℕ) (j : Cursor) (w v : ℕ) → j.refusal ≡ 0 → w ≤ length (window s) - j.at → w ≤ 32 → v ≡ num_at (window s) j.at w
    → Reads (run w) s j v (place (j.at + w))
unfolding field
take-good s j w v z h o n =
    let e = eq-eqb j.refusal 0 z in
    let l = le-leb w (length (window s) - j.at) h in
    let m = le-leb w 32 o in
    record { value_is = rw (e, l, m) n; next_is = rw (e, l, m) }

-- a run of at most k bits is below 2 ^ k
pub run-below : (k : ℕ) (bs : List Bool) (at w v : ℕ) → v ≡ num_at bs at w → w ≤ k → v < 2 ^ k
run-below k bs at w v e h = rw e (lt_of_lt_of_le (num_at-lt bs at w) (pow_mono h))

-- ---- the judgement after it
module _ {A : Type 0} (judge : ℕ → ℕ) (to : ℕ → A) (none : A) (at end x : ℕ) (j : Cursor) where
  abbrev ways : Bool → Bool → Out A
  ways b d = cond b (cond d (settle (judge x) (to x) none at end) (out none (refuse at 7))) (out none j)

  abbrev plain : Bool → Bool → Out ℕ
  plain b d = cond b (cond d (out x (place end)) (out 0 (refuse at 7))) (out 0 j)

  kept : (b d : Bool) (n : Cursor) (v : ℕ) → v ≡ (plain b d).value → n ≡ (plain b d).next → (n.refusal ≡ 0 → ⊥)
      → (none ≡ (ways b d).value) × (n ≡ (ways b d).next) × (v ≡ 0)
  kept true true n v f e h = absurd (h (ap (λ (i : Cursor). i.refusal) e))
  kept true false n v f e h = (refl, e, f)
  kept false d n v f e h = (refl, e, f)

  bad : (b d : Bool) (n : Cursor) (v k : ℕ) → v ≡ (plain b d).value → n ≡ (plain b d).next → n.refusal ≡ 0 → (j.refusal ≡ 0 → b ≡ true) → judge v ≡ suc k
      → (none ≡ (ways b d).value) × (refuse at (suc k) ≡ (ways b d).next)
  bad true true n v k f e z q h = let y : judge x ≡ suc k = ap judge (sym f) ∙ h in (rw y, rw y)
  bad true false n v k f e z q h = absurd (omega (arith, ap (λ (i : Cursor). i.refusal) e))
  bad false d n v k f e z q h = absurd (false≢true (q (ap (λ (i : Cursor). i.refusal) (sym e) ∙ z)))

  good : (b d : Bool) (n : Cursor) (v : ℕ) → v ≡ (plain b d).value → n ≡ (plain b d).next → n.refusal ≡ 0 → (j.refusal ≡ 0 → b ≡ true) → judge v ≡ 0
      → (to v ≡ (ways b d).value) × (n ≡ (ways b d).next)
  good true true n v f e z q h = let y : judge x ≡ 0 = ap judge (sym f) ∙ h in (rw y (ap to f), rw y e)
  good true false n v f e z q h = absurd (omega (arith, ap (λ (i : Cursor). i.refusal) e))
  good false d n v f e z q h = absurd (false≢true (q (ap (λ (i : Cursor). i.refusal) (sym e) ∙ z)))

module _ {A : Type 0} (f : Field A) {w : ℕ} (e : w ≡ f.width) (o : w ≤ 32) {s : List ℕ} {j : Cursor} {v : ℕ} {n : Cursor} (u : Reads (run w) s j v n) where
  abbrev x : ℕ
  x = num_at (window s) j.at f.width

  abbrev b : Bool
  b = eqb j.refusal 0

  abbrev d : Bool
  d = leb f.width (length (window s) - j.at)

  -- what `take` read, with its width and its judgement known
  taken : (v ≡ (plain f.judge f.to f.none j.at (j.at + f.width) x j b d).value) × (n ≡ (plain f.judge f.to f.none j.at (j.at + f.width) x j b d).next)
  unfolding field
  taken =
      let t : Reads (run f.width) s j v n = subst (λ (i : ℕ). Reads (run i) s j v n) e u in
      let m : leb f.width 32 ≡ true = le-leb f.width 32 (omega (arith, e)) in
      (rw m at t.value_is, rw m at t.next_is)

  pub judged-kept : (n.refusal ≡ 0 → ⊥) → Reads (field f) s j f.none n
  unfolding field
  judged-kept h =
      let r = kept f.judge f.to f.none j.at (j.at + f.width) x j b d n v taken.0 taken.1 h in
      record { value_is = r.0; next_is = r.1 }

  pub judged-none : (n.refusal ≡ 0 → ⊥) → v ≡ 0
  judged-none h = (kept f.judge f.to f.none j.at (j.at + f.width) x j b d n v taken.0 taken.1 h).2

  pub judged-bad : (k : ℕ) → n.refusal ≡ 0 → f.judge v ≡ suc k → Reads (field f) s j f.none (refuse j.at (suc k))
  unfolding field
  judged-bad k z h =
      let r = bad f.judge f.to f.none j.at (j.at + f.width) x j b d n v k taken.0 taken.1 z (eq-eqb j.refusal 0) h in
      record { value_is = r.0; next_is = r.1 }

  pub judged-good : n.refusal ≡ 0 → f.judge v ≡ 0 → Reads (field f) s j (f.to v) n
  unfolding field
  judged-good z h =
      let r = good f.judge f.to f.none j.at (j.at + f.width) x j b d n v taken.0 taken.1 z (eq-eqb j.refusal 0) h in
      record { value_is = r.0; next_is = r.1 }

  -- a field that refuses no number
  pub judged-free : ((i : ℕ) → f.judge i ≡ 0) → f.to 0 ≡ f.none → Reads (field f) s j (f.to v) n
  judged-free g z = go (eqb n.refusal 0) refl
    where
      go : (t : Bool) → eqb n.refusal 0 ≡ t → Reads (field f) s j (f.to v) n
      go true q = judged-good (eqb-true n.refusal 0 q) (g v)
      go false q =
          let h = eqb-false n.refusal 0 q in
          subst (λ (a : A). Reads (field f) s j a n) (sym (ap f.to (judged-none h) ∙ z)) (judged-kept h)

-- where a number that was read with a refusal is returned as it is
pub judged-stays : (f : Field ℕ) {w : ℕ} (e : w ≡ f.width) (o : w ≤ 32) {s : List ℕ} {j : Cursor} {v : ℕ} {n : Cursor} (u : Reads (run w) s j v n)
    → f.none ≡ 0 → (n.refusal ≡ 0 → ⊥) → Reads (field f) s j v n
judged-stays f e o {s} {j} {v} {n} u z h = subst (λ (a : ℕ). Reads (field f) s j a n) (z ∙ sym (judged-none f e o u h)) (judged-kept f e o u h)

-- ---- above a range
pub above-empty : (lo hi v : ℕ) → hi < lo → true ≡ not (leb (lo + v) hi)
above-empty lo hi v h = let l : hi < lo + v = omega arith in rw (lt-leb (lo + v) hi l)

pub above-is : (lo hi v : ℕ) → lo ≤ hi → ltb (hi - lo) v ≡ not (leb (lo + v) hi)
above-is lo hi v h = go (ltb (hi - lo) v) refl
  where
    go : (b : Bool) → ltb (hi - lo) v ≡ b → b ≡ not (leb (lo + v) hi)
    go true e = let l : hi < lo + v = omega (arith, ltb-true (hi - lo) v e) in rw (lt-leb (lo + v) hi l)
    go false e = let l : lo + v ≤ hi = omega (arith, ltb-false (hi - lo) v e) in rw (le-leb (lo + v) hi l)

module _ (lo hi v : ℕ) (r : Bool) (e : r ≡ not (leb (lo + v) hi)) where
  pub above-le : r ≡ false → lo + v ≤ hi
  above-le h = go (leb (lo + v) hi) refl
    where
      go : (t : Bool) → leb (lo + v) hi ≡ t → lo + v ≤ hi
      go true q = leb-true (lo + v) hi q
      go false q = absurd (false≢true (sym h ∙ e ∙ ap not q))

  pub above-8 : r ≡ true → unless (leb (lo + v) hi) 8 ≡ 8
  above-8 h = go (leb (lo + v) hi) refl
    where
      go : (t : Bool) → leb (lo + v) hi ≡ t → unless t 8 ≡ 8
      go true q = absurd (false≢true (sym (ap not q) ∙ sym e ∙ h))
      go false q = refl

-- ---- a judgement as a number
module _ {A : Type 0} (f : Field A) {w : ℕ} (e : w ≡ f.width) (o : w ≤ 32) {s : List ℕ} {j : Cursor} (t : Read ℕ) (m : ℕ)
    (u : Reads (run w) s j t.value t.next) (q : m ≡ f.judge t.value) where
  -- the cursor is the field's
  pub settled-next : (settled j t m).next ≡ ((field f).run (window s) j).next
  unfolding settled
  settled-next = go (eqb t.next.refusal 0) refl m refl
    where
      go : (b : Bool) → eqb t.next.refusal 0 ≡ b → (k : ℕ) → m ≡ k
          → (cond b (cond (eqb k 0) t (record { value = 0; next = refuse j.at k })) t).next ≡ ((field f).run (window s) j).next
      go true b zero h = (judged-good f e o u (eqb-true t.next.refusal 0 b) (sym q ∙ h)).next_is
      go true b (suc k) h = rw (eqb-suc-zero k) (judged-bad f e o u k (eqb-true t.next.refusal 0 b) (sym q ∙ h)).next_is
      go false b k h = (judged-kept f e o u (eqb-false t.next.refusal 0 b)).next_is

  -- and so is the value, where it is the number that was sent
  pub settled-value : (to : A → ℕ) → to f.none ≡ 0 → ((v : ℕ) → to (f.to v) ≡ v) → (settled j t m).value ≡ to ((field f).run (window s) j).value
  unfolding settled
  settled-value to z g = go (eqb t.next.refusal 0) refl m refl
    where
      go : (b : Bool) → eqb t.next.refusal 0 ≡ b → (k : ℕ) → m ≡ k
          → (cond b (cond (eqb k 0) t (record { value = 0; next = refuse j.at k })) t).value ≡ to ((field f).run (window s) j).value
      go true b zero h = sym (g t.value) ∙ ap to (judged-good f e o u (eqb-true t.next.refusal 0 b) (sym q ∙ h)).value_is
      go true b (suc k) h = rw (eqb-suc-zero k) (sym z ∙ ap to (judged-bad f e o u k (eqb-true t.next.refusal 0 b) (sym q ∙ h)).value_is)
      go false b k h =
          let i = eqb-false t.next.refusal 0 b in
          judged-none f e o u i ∙ sym z ∙ ap to (judged-kept f e o u i).value_is
