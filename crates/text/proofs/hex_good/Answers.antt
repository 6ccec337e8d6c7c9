use mathlib.Core.Path.{◌≡◌, refl, ◌∙◌}
use mathlib.Core.List.{List, [], ◌∷◌}
use Prim.Native.Nat.{ℕ}
use lib.Dec.{ltb}
use Rattle.std.proofs.Common.{rules, tests}
use Rattle.std.specs.List.{list_all}
use Rattle.std.proofs.lemmas.Iterator.{YieldsList-from_slice}
use Rattle.std.proofs.lemmas.Iterator.Search.{all_from_yields_List}
use Rattle.text.specs.Text.{digit_of, all_hex, hex_good}
use Rattle.text.proofs.hex_good.Goals as goal

digits-all : (s : List ℕ) → list_all (λ c. ltb (digit_of c) 16) s ≡ all_hex s
digits-all [] = refl
digits-all (c ∷ s) = search rules

pub returns-then-all : goal.returns-then-all
unfolding hex_good
returns-then-all c = let s = c.args.s.now in
    let e = all_from_yields_List (λ c. ltb (digit_of c) 16) _ _ _ c.all.ensures.ran (YieldsList-from_slice s cc) (λ x b q k. search (rules, tests)) ∙ digits-all s in
    rw (← e, c.if-all.true)

pub returns-else-all : goal.returns-else-all
unfolding hex_good
returns-else-all c = let s = c.args.s.now in
    let e = all_from_yields_List (λ c. ltb (digit_of c) 16) _ _ _ c.all.ensures.ran (YieldsList-from_slice s cc) (λ x b q k. search (rules, tests)) ∙ digits-all s in
    rw (← e, c.if-all.false)
