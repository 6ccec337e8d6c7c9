-- What a block is judged, by the tests that lead to it. Assumes nothing.
use Prim.Native.Nat.{ℕ, ◌+◌, ◌-◌, ◌≤◌, ◌<◌}
use mathlib.Core.Path.{◌≡◌}
use mathlib.Core.Bool.{Bool}
use mathlib.Core.List.{List}
use native.Mathlib.Omega.{arith}
use borrow.Author.Tests.{eq-eqb, ne_eqb, le-leb, lt-leb, lt-ltb, le-ltb}
use lib.ListN.{length, take, drop}
use Rattle.refusals.specs.Refusals.{CHECK-WRONG, OUT-OF-TURN, NOT-READABLE}
use Rattle.link.specs.Tests.{pick}
use Rattle.octets.specs.Octets.{word_at, pair_at}
use Rattle.log_blocks.specs.Block.{BLOCKS, check_of, all_zero, length_judged, judged}

module _ (b : List ℕ) (m : ℕ) (is : m ≡ pair_at b 4) where
  pub length_over : 504 < m → NOT-READABLE ≡ length_judged b
  unfolding length_judged
  length_over h = rw (← is, lt-leb m 504 h)

  pub length-zeros : m ≤ 504 → (z : Bool) → z ≡ all_zero (take (510 - (6 + m)) (drop (6 + m) b)) → pick z 0 NOT-READABLE ≡ length_judged b
  unfolding length_judged
  length-zeros h z e = let f : 504 - m ≡ 510 - (6 + m) = omega arith in rw (e, ← is, le-leb m 504 h, f)

pub not-a-block : (n : ℕ) (b : List ℕ) → (length b ≡ 512 → ⊥) → NOT-READABLE ≡ judged 0 n b
unfolding judged
not-a-block n b h = rw (ne_eqb _ _ h)

module _ (n : ℕ) (b : List ℕ) (h : length b ≡ 512) where
  pub check-wrong : (pair_at b 510 ≡ check_of (take 510 b) → ⊥) → CHECK-WRONG ≡ judged 0 n b
  unfolding judged
  check-wrong k = rw (eq-eqb _ _ h, ne_eqb _ _ k)

  module _ (k : pair_at b 510 ≡ check_of (take 510 b)) where
    pub none-due : BLOCKS ≤ n → OUT-OF-TURN ≡ judged 0 n b
    unfolding judged
    none-due l = rw (eq-eqb _ _ h, eq-eqb _ _ k, le-ltb n BLOCKS l)

    module _ (l : n < BLOCKS) where
      pub number-wrong : (word_at b 0 ≡ n → ⊥) → OUT-OF-TURN ≡ judged 0 n b
      unfolding judged
      number-wrong m = let z : 0 + n ≡ n = omega arith in rw (eq-eqb _ _ h, eq-eqb _ _ k, lt-ltb n BLOCKS l, z, ne_eqb _ _ m)

      pub rest-judged : word_at b 0 ≡ n → length_judged b ≡ judged 0 n b
      unfolding judged
      rest-judged m = let z : 0 + n ≡ n = omega arith in rw (eq-eqb _ _ h, eq-eqb _ _ k, lt-ltb n BLOCKS l, z, eq-eqb _ _ m)
