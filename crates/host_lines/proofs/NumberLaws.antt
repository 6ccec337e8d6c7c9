-- Numbers read one after another. Assumes nothing.
use mathlib.Core.Path.{◌≡◌, refl, sym, ap, subst, ◌∙◌}
use mathlib.Core.Bool.{Bool, true, false}
use mathlib.Core.List.{List}
use Prim.Native.Nat.{ℕ, zero, suc, ◌+◌, ◌-◌, ◌≤◌}
use native.Mathlib.Omega.{arith}
use borrow.Author.Tests.{eq-eqb, ne_eqb}
use lib.Dec.{eqb}
use lib.ListN.{length, take, drop, set, length-drop}
use lib.Seq.{drop-drop}
use Rattle.text.specs.Text.{pick}
use Rattle.std.specs.Prelude.{Option, Some, None, IfSome}
use Rattle.text.specs.Numbers.{step_of, with_step}
use Rattle.text.specs.declared.digits.Stepped.{Stepped}
use Rattle.text.proofs.Laws.{part-all}
use Rattle.text.proofs.Counting.{step-used}
use Rattle.host_lines.specs.Fields.{no_numbers, numbers_from, numbers_in}

module _ (k i : ℕ) (list s : List ℕ) (at : ℕ) (within : at ≤ length s) where
  pub numbers-end : at ≡ length s → record { good = true; count = i; list = list } ≡ numbers_from (suc k) i list (drop at s)
  unfolding numbers_from
  numbers-end e =
      let z : length (drop at s) ≡ 0 = omega (arith, length-drop at s) in
      rw (eq-eqb _ 0 z)

  module _ (some : at ≡ length s → ⊥) where
    here : (r : Option Stepped) → r ≡ step_of (take (length s - at) (drop at s)) → r ≡ step_of (drop at s)
    here r e = e ∙ ap step_of (part-all s at (length s) refl)

    more : length (drop at s) ≡ 0 → ⊥
    more z = some (omega (arith, length-drop at s))

    pub numbers-stop : None ≡ step_of (take (length s - at) (drop at s)) → no_numbers ≡ numbers_from (suc k) i list (drop at s)
    unfolding numbers_from
    numbers-stop e = rw (ne_eqb _ 0 more, ← here None e)

    module _ (n : Stepped) (e : Some n ≡ step_of (take (length s - at) (drop at s))) where
      pub numbers_more : numbers_from k (i + 1) (set list i n.value) (drop (at + n.used) s) ≡ numbers_from (suc k) i list (drop at s)
      unfolding numbers_from
      numbers_more = rw (ne_eqb _ 0 more, ← here (Some n) e, drop-drop n.used at s)

      pub numbers-within : at + n.used ≤ length s
      numbers-within =
          let u : n.used ≤ length (drop at s) = subst (λ (x : Option Stepped). IfSome x (λ r. r.used ≤ length (drop at s))) (sym (here (Some n) e)) (step-used (drop at s)) in
          omega (arith, u, length-drop at s)

pub numbers-out : (k i : ℕ) (list s : List ℕ) → k ≡ 0 → no_numbers ≡ numbers_from k i list s
unfolding numbers_from
numbers-out zero i list s z = refl
numbers-out (suc k) i list s z = absurd (omega arith)

-- how many there are
numbers-most : (k i : ℕ) (list s : List ℕ) → (numbers_from k i list s).count ≤ i + k
unfolding numbers_from
numbers-most zero i list s = omega arith
numbers-most (suc k) i list s = go (eqb (length s) 0) (step_of s) (λ n. numbers-most k (i + 1) (set list i n.value) (drop n.used s))
  where
    go : (a : Bool) (x : Option Stepped) → ((n : Stepped) → (numbers_from k (i + 1) (set list i n.value) (drop n.used s)).count ≤ i + 1 + k)
        → (pick a (record { good = true; count = i; list = list }) (with_step x no_numbers (λ n. numbers_from k (i + 1) (set list i n.value) (drop n.used s)))).count ≤ i + suc k
    go true x h = omega arith
    go false (Some n) h = omega (arith, h n)
    go false None h = omega arith

pub numbers_fit : (s : List ℕ) → (numbers_in s).count ≤ 48
unfolding numbers_in
numbers_fit s = numbers-most 48 0 _ s
