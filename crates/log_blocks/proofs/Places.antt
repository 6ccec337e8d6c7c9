-- What stands at a place of a block, by the tests that lead to it; and that it is what the payload reads as from there. Assumes nothing.
use Prim.Native.Nat.{ℕ, ◌+◌, ◌-◌, ◌≤◌, ◌<◌}
use mathlib.Core.Path.{◌≡◌, refl, sym, ap, ◌∙◌}
use mathlib.Core.Bool.{Bool, true, false}
use mathlib.Core.List.{List}
use native.Mathlib.Omega.{arith}
use borrow.Author.Tests.{eq-eqb, ne_eqb, le-leb, lt-leb, leb-true, leb-false}
use lib.Dec.{leb}
use lib.ListN.{length, get_or, take, drop, length-drop}
use lib.Seq.{length-take-le, get_or-take, get_or-drop, drop-drop, take-take}
use Rattle.octets.specs.Octets.{word_at, pair_at}
use Rattle.octets.specs.laws.Runs.{drop-take}
use Rattle.log_blocks.specs.Log.{one, none, cut}
use Rattle.log_blocks.specs.Record.{rec, readable, rec_first}
use Rattle.log_blocks.specs.Places.{at_record, at_end, unreadable, end_of, found_at, from, seen}

pub at_other : (b : List ℕ) (at : ℕ) → (length b ≡ 512 → ⊥) → unreadable ≡ found_at b at
unfolding found_at
at_other b at h = rw (ne_eqb _ _ h)

module _ (b : List ℕ) (at m : ℕ) (h : length b ≡ 512) (is : m ≡ pair_at b 4) where
  pub at-over : 510 < 6 + m → unreadable ≡ found_at b at
  unfolding found_at end_of
  at-over k = rw (eq-eqb _ _ h, ← is, lt-leb (6 + m) 510 k)

  module _ (k : 6 + m ≤ 510) where
    pub at-end : 6 + m ≤ at → at_end ≡ found_at b at
    unfolding found_at end_of
    at-end l = rw (eq-eqb _ _ h, ← is, le-leb (6 + m) 510 k, le-leb (6 + m) at l)

    module _ (l : at < 6 + m) where
      pub at_cut : 6 + m < at + 6 → unreadable ≡ found_at b at
      unfolding found_at end_of
      at_cut x = rw (eq-eqb _ _ h, ← is, le-leb (6 + m) 510 k, lt-leb (6 + m) at l, lt-leb (at + 6) (6 + m) x)

      module _ (x : at + 6 ≤ 6 + m) (n : ℕ) (e : n ≡ get_or b (at + 5) 0) where
        pub at_long : 129 < n → unreadable ≡ found_at b at
        unfolding found_at end_of
        at_long y = rw (eq-eqb _ _ h, ← is, le-leb (6 + m) 510 k, lt-leb (6 + m) at l, le-leb (at + 6) (6 + m) x, ← e, lt-leb n 129 y)

        module _ (y : n ≤ 129) where
          pub at-past : 6 + m < at + 6 + n → unreadable ≡ found_at b at
          unfolding found_at end_of
          at-past z = rw (eq-eqb _ _ h, ← is, le-leb (6 + m) 510 k, lt-leb (6 + m) at l, le-leb (at + 6) (6 + m) x, ← e, le-leb n 129 y, lt-leb (at + 6 + n) (6 + m) z)

          pub at-record : at + 6 + n ≤ 6 + m → at_record (get_or b at 0) (word_at b (at + 1)) (at + 6) n (at + 6 + n) ≡ found_at b at
          unfolding found_at end_of
          at-record z = rw (eq-eqb _ _ h, ← is, le-leb (6 + m) 510 k, lt-leb (6 + m) at l, le-leb (at + 6) (6 + m) x, ← e, le-leb n 129 y, le-leb (at + 6 + n) (6 + m) z)

-- ---- the same from the payload
module _ (b : List ℕ) (at : ℕ) (h : length b ≡ 512) (k : end_of b ≤ 510) where
  abbrev p : List ℕ
  p = from b at

  abbrev m : ℕ
  m = pair_at b 4

  abbrev n : ℕ
  n = get_or b (at + 5) 0

  room : 6 + m ≤ 510
  unfolding end_of
  room = k

  end_is : end_of b ≡ 6 + m
  unfolding end_of
  end_is = refl

  past_end : 6 + m ≤ at → none ≡ rec_first p
  unfolding rec_first
  past_end l = let e : end_of b - at ≡ 0 = omega (arith, end_is) in rw e

  module _ (l : at < 6 + m) where
    p-long : length p ≡ 6 + m - at
    p-long = length-take-le (end_of b - at) (drop at b) (omega (arith, length-drop at b, end_is)) ∙ omega (arith, end_is)

    p-at : (i : ℕ) → i < 6 + m - at → get_or p i 0 ≡ get_or b (at + i) 0
    p-at i x = get_or-take (end_of b - at) (drop at b) i 0 (omega (arith, end_is)) ∙ get_or-drop at b i 0

    some : (length p ≡ 0 → ⊥)
    some e = omega (arith, e, p-long)

    not-readable : readable p ≡ false → cut ≡ rec_first p
    unfolding rec_first
    not-readable e = rw (ne_eqb _ 0 some, e)

    cut-six : 6 + m < at + 6 → readable p ≡ false
    unfolding readable
    cut-six x = let y : length p < 6 = omega (arith, p-long) in rw (lt-leb 6 (length p) y)

    module _ (x : at + 6 ≤ 6 + m) where
      size : get_or p 5 0 ≡ n
      size = p-at 5 (omega arith)

      front : 6 ≤ length p
      front = omega (arith, p-long)

      cut-long : 129 < n → readable p ≡ false
      unfolding readable
      cut-long y = rw (le-leb 6 (length p) front, size, lt-leb n 129 y)

      cut_short : n ≤ 129 → 6 + m < at + 6 + n → readable p ≡ false
      unfolding readable
      cut_short y z = let u : length p < 6 + n = omega (arith, p-long) in rw (le-leb 6 (length p) front, size, le-leb n 129 y, lt-leb (6 + n) (length p) u)

      module _ (y : n ≤ 129) (z : at + 6 + n ≤ 6 + m) where
        all : readable p ≡ true
        unfolding readable
        all = let u : 6 + n ≤ length p = omega (arith, p-long) in rw (le-leb 6 (length p) front, size, le-leb n 129 y, le-leb (6 + n) (length p) u)

        word-is : word_at p 1 ≡ word_at b (at + 1)
        word-is =
            let e : at + 2 ≡ at + 1 + 1 = omega arith in
            let f : at + 3 ≡ at + 1 + 2 = omega arith in
            let g : at + 4 ≡ at + 1 + 3 = omega arith in
            rw (p-at 1 (omega arith), p-at 2 (omega arith), p-at 3 (omega arith), p-at 4 (omega arith), e, f, g)

        kind-is : get_or p 0 0 ≡ get_or b at 0
        kind-is = let e : at + 0 ≡ at = omega arith in p-at 0 (omega arith) ∙ ap (λ (j : ℕ). get_or b j 0) e

        part : (i : ℕ) → drop i p ≡ take (end_of b - at - i) (drop (at + i) b)
        part i = drop-take i (end_of b - at) (drop at b) ∙ ap (take (end_of b - at - i)) (drop-drop i at b)

        data_is : take n (drop 6 p) ≡ take n (drop (at + 6) b)
        data_is = ap (take n) (part 6) ∙ take-take n (end_of b - at - 6) (drop (at + 6) b) (omega (arith, end_is))

        rest-is : drop (6 + n) p ≡ from b (at + 6 + n)
        rest-is =
            let e : at + (6 + n) ≡ at + 6 + n = omega arith in
            let f : end_of b - at - (6 + n) ≡ end_of b - (at + 6 + n) = omega arith in
            part (6 + n) ∙ rw (e, f)

        record_is : one (rec (get_or b at 0) (word_at b (at + 1)) (take n (drop (at + 6) b))) (from b (at + 6 + n)) ≡ rec_first p
        unfolding rec_first
        record_is = rw (ne_eqb _ 0 some, all, size, kind-is, word-is, data_is, rest-is)

  pub found-seen : seen b (found_at b at) ≡ rec_first p
  found-seen = go (leb (6 + m) at) (leb (at + 6) (6 + m)) (leb n 129) (leb (at + 6 + n) (6 + m)) refl refl refl refl
    where
      go : (c d e f : Bool) → leb (6 + m) at ≡ c → leb (at + 6) (6 + m) ≡ d → leb n 129 ≡ e → leb (at + 6 + n) (6 + m) ≡ f → seen b (found_at b at) ≡ rec_first p
      go true d e f u x y z =
          let i = leb-true _ _ u in
          ap (seen b) (sym (at-end b at m h refl room i)) ∙ past_end i
      go false false e f u x y z =
          let i = leb-false _ _ u in
          let j = leb-false _ _ x in
          ap (seen b) (sym (at_cut b at m h refl room i j)) ∙ not-readable i (cut-six i j)
      go false true false f u x y z =
          let i = leb-false _ _ u in
          let j = leb-true _ _ x in
          let o = leb-false _ _ y in
          ap (seen b) (sym (at_long b at m h refl room i j n refl o)) ∙ not-readable i (cut-long i j o)
      go false true true false u x y z =
          let i = leb-false _ _ u in
          let j = leb-true _ _ x in
          let o = leb-true _ _ y in
          let w = leb-false _ _ z in
          ap (seen b) (sym (at-past b at m h refl room i j n refl o w)) ∙ not-readable i (cut_short i j o w)
      go false true true true u x y z =
          let i = leb-false _ _ u in
          let j = leb-true _ _ x in
          let o = leb-true _ _ y in
          let w = leb-true _ _ z in
          ap (seen b) (sym (at-record b at m h refl room i j n refl o w)) ∙ record_is i j o w
