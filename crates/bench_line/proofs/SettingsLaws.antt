-- Settings read one after another. Assumes nothing.
use mathlib.Core.Path.{◌≡◌, refl, sym, ap, subst, ◌∙◌}
use mathlib.Core.List.{List}
use Prim.Native.Nat.{ℕ, zero, suc, ◌+◌, ◌-◌, ◌≤◌}
use native.Mathlib.Omega.{arith}
use borrow.Author.Tests.{eq-eqb, ne_eqb}
use lib.ListN.{length, take, drop, set, length-drop}
use lib.Seq.{drop-drop}
use Rattle.std.specs.Prelude.{Option, Some, None, IfSome}
use Rattle.text.specs.Numbers.{step_of}
use Rattle.text.specs.declared.digits.Stepped.{Stepped}
use Rattle.text.proofs.Laws.{part-all}
use Rattle.text.proofs.Counting.{step-used}
use Rattle.bench_line.specs.Settings.{settings_from}

module _ (k i : ℕ) (list s : List ℕ) (at : ℕ) where
  here : (r : Option Stepped) → r ≡ step_of (take (length s - at) (drop at s)) → r ≡ step_of (drop at s)
  here r e = e ∙ ap step_of (part-all s at (length s) refl)

  pub settings-stop : None ≡ step_of (take (length s - at) (drop at s)) → None ≡ settings_from (suc k) i list (drop at s)
  unfolding settings_from
  settings-stop e = rw (← here None e)

  module _ (n : Stepped) (e : Some n ≡ step_of (take (length s - at) (drop at s))) where
    pub settings-more : settings_from k (i + 1) (set list i n.value) (drop (at + n.used) s) ≡ settings_from (suc k) i list (drop at s)
    unfolding settings_from
    settings-more = rw (← here (Some n) e, drop-drop n.used at s)

    pub settings-within : at ≤ length s → at + n.used ≤ length s
    settings-within h =
        let u : n.used ≤ length (drop at s) = subst (λ (x : Option Stepped). IfSome x (λ r. r.used ≤ length (drop at s))) (sym (here (Some n) e)) (step-used (drop at s)) in
        omega (arith, u, length-drop at s)

-- the end
pub settings-end : (k i : ℕ) (list s : List ℕ) (at : ℕ) → k ≡ 0 → at ≡ length s → Some list ≡ settings_from k i list (drop at s)
unfolding settings_from
settings-end zero i list s at z e =
    let n : length (drop at s) ≡ 0 = rw (length-drop at s) (omega arith) in
    rw (eq-eqb _ _ n)
settings-end (suc k) i list s at z e = absurd (omega arith)

pub settings-left : (k i : ℕ) (list s : List ℕ) (at : ℕ) → k ≡ 0 → at ≤ length s → (at ≡ length s → ⊥) → None ≡ settings_from k i list (drop at s)
unfolding settings_from
settings-left zero i list s at z h n =
    let m : (length (drop at s) ≡ 0 → ⊥) = λ e. n (omega (arith, length-drop at s)) in
    rw (ne_eqb _ _ m)
settings-left (suc k) i list s at z h n = absurd (omega arith)
