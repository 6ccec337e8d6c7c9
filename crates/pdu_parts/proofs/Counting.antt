-- The language's count of ones is the count of the bits that are 1. Assumes nothing.
use Prim.Native.Nat.{ℕ, zero, suc, ◌+◌, ◌/◌, ◌%◌, ◌^◌, ◌≤◌, ◌<◌}
use mathlib.Core.Path.{◌≡◌, ap, ◌∙◌}
use mathlib.Core.Bool.{Bool}
use mathlib.Core.List.{List, [], ◌∷◌, ◌++◌}
use native.Mathlib.Nat.{pow-suc}
use native.Mathlib.Omega.{arith}
use lib.Count.{ones, ones_step}
use Rattle.per.specs.Bits.{of_bit, to_bit, to_bits}
use Rattle.per.specs.laws.Bits.{of-to}
use Rattle.pdu_parts.specs.Ones.{trues, ones_of, periodic_count}
use Rattle.pdu_parts.specs.declared.periodic.Periodic.{Periodic}
use Rattle.pdu_parts.specs.Interval.{is_five, sent_bits}

trues-snoc : (bs : List Bool) (b : Bool) → trues (bs ++ (b ∷ [])) ≡ trues bs + of_bit b
unfolding trues
trues-snoc [] b = omega arith
trues-snoc (x ∷ bs) b = omega (arith, trues-snoc bs b)

ones-bits : (w v : ℕ) → v < 2 ^ w → ones v ≡ trues (to_bits w v)
unfolding to_bits trues ones
ones-bits zero v h = let z : v ≡ 0 = omega arith in rw z
ones-bits (suc w) v h =
    let i = ones-bits w (v / 2) (omega (arith, pow-suc 2 w)) in
    let b : of_bit (to_bit (v % 2)) ≡ v % 2 = of-to (v % 2) (omega arith) in
    ones_step v ∙ omega (arith, i, b, trues-snoc (to_bits w (v / 2)) (to_bit (v % 2)))

pub count-is : (v : ℕ) → v < 2 ^ 32 → ones v ≡ ones_of v
unfolding ones_of
count-is v h = ones-bits 32 v h

-- the presence bits that `write_periodic` sends are those that are counted
pub counts-sent : (a : Periodic) → a.elements ≤ 127 → periodic_count a ≡ ones_of (sent_bits (is_five a.interval) a.elements)
unfolding periodic_count
counts-sent a h = ap (λ (n : ℕ). ones_of (sent_bits (is_five a.interval) n)) (omega arith)

pub count-periodic : (a : Periodic) (v : ℕ) (five : Bool) → five ≡ is_five a.interval → v ≡ sent_bits five (a.elements % 128) → v < 2 ^ 32 → ones v ≡ periodic_count a
unfolding periodic_count
count-periodic a v five f e h = count-is v h ∙ ap ones_of (e ∙ ap (λ (b : Bool). sent_bits b (a.elements % 128)) f)
