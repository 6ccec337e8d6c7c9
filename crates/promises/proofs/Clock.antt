-- Demand 2, of the clock, from the definition of an elapse. Assumes nothing.
use mathlib.Core.Path.{◌≡◌, refl, ap, ◌∙◌}
use mathlib.Core.Bool.{Bool, true, false, not}
use mathlib.Core.List.{List, [], ◌∷◌, map}
use Prim.Native.Nat.{ℕ, zero, suc, ◌-◌, ◌≤◌, ◌<◌}
use native.Mathlib.Omega.{arith}
use lib.Dec.{T, leb}
use lib.ListN.{get_or}
use borrow.Author.Tests.{leb-true, le-leb, lt-leb}
use Rattle.link.specs.Acts.{acts}
use Rattle.link.specs.Names.{timers}
use Rattle.link.specs.Tests.{both, below}
use Rattle.link.specs.Clock.{due, not_due, later}
use Rattle.link.specs.Step.{begun}
use Rattle.link.proofs.Laws.{below_all, below_fails, T-eq}
use Rattle.ground_answer.specs.Record.{good, followed}
use Rattle.ground_answer.specs.Aborts.{aborted}
use Rattle.ground_answer.specs.Clock.{waited, elapsed}
use Rattle.ground_answer.specs.declared.record.Link.{Link}
use Rattle.ground_answer.specs.declared.answer.Answer.{Answer}
use Rattle.ground.specs.Runs.{answered}
use Rattle.ground.specs.declared.call.Call.TheVariants.{Elapse}
use Rattle.promises.specs.Calls.{NoneDue, Clock}

late : (n left : ℕ) → 1 ≤ left → left ≤ n → not (due n left) ≡ false
unfolding due
late n left a b = rw (le-leb 1 left a, le-leb left n b)

early : (n left : ℕ) → (1 ≤ left → n < left) → T (not (due n left))
unfolding due
early n left h = go (leb 1 left) refl
  where
    go : (b : Bool) → leb 1 left ≡ b → T (not (both b (leb left n)))
    go false e = tt
    go true e = rw (lt-leb left n (h (leb-true 1 left e))) tt

none-due : (l : Link) (n : ℕ) → NoneDue l n → below timers (not_due n l.left) ≡ true
unfolding not_due
none-due l n h = T-eq _ (below_all timers (λ t. not (due n (get_or l.left t 0))) (λ t lt. early n (get_or l.left t 0) (h t lt)))

waits : (l : Link) (n : ℕ) → T (good l) → n ≤ 86400 → NoneDue l n → (octets : List ℕ) → answered l (Elapse n) octets ≡ waited l n
unfolding answered elapsed
waits l n g le h octets = rw (T-eq (good l) g, le-leb n 86400 le, none-due l n h)

expired : (l : Link) (n t : ℕ) → T (good l) → n ≤ 86400 → t < timers → 1 ≤ get_or l.left t 0 → get_or l.left t 0 ≤ n → (octets : List ℕ)
    → answered l (Elapse n) octets ≡ aborted l 4
unfolding answered elapsed not_due
expired l n t g le lt one most octets =
    rw (T-eq (good l) g, le-leb n 86400 le, below_fails (λ k. not (due n (get_or l.left k 0))) timers t lt (late n (get_or l.left t 0) one most))

lose : (n : ℕ) (left : List ℕ) (t : ℕ) → get_or (map (λ x. x - n) left) t 0 ≡ get_or left t 0 - n
lose n [] t = omega arith
lose n (x ∷ left) zero = refl
lose n (x ∷ left) (suc t) = lose n left t

waited-left : (l : Link) (n t : ℕ) → get_or (waited l n).link.left t 0 ≡ get_or l.left t 0 - n
unfolding waited followed begun later
waited-left l n t = lose n l.left t

waited-rest : (l : Link) (n : ℕ) → ((waited l n).link.at ≡ l.at) × ((waited l n).said.acts ≡ acts [])
unfolding waited followed begun
waited-rest l n = (refl, refl)

pub clock : Clock
clock = record {
  due = λ l n t g one le lt runs most octets. expired l n t g le lt runs most octets;
  loses = λ l n t g le h lt octets. ap (λ (a : Answer). get_or a.link.left t 0) (waits l n g le h octets) ∙ waited-left l n t;
  same_states = λ l n g le h octets. ap (λ (a : Answer). a.link.at) (waits l n g le h octets) ∙ (waited-rest l n).0;
  silent = λ l n g le h octets. ap (λ (a : Answer). a.said.acts) (waits l n g le h octets) ∙ (waited-rest l n).1;
}
