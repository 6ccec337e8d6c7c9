-- Whole numbers as text (01, "Script words"): "N has no sign or leading zero and fits 32 bits".
use Rattle.std.specs.Prelude.{true, false, List, [], ◌∷◌, ℕ, ◌+◌, ◌-◌, ◌*◌, eqb, leb, take, Option, Some, None}
use Rattle.text.specs.Text.{pick, both, word_end}
use Rattle.text.specs.declared.digits.Stepped.{Stepped}

-- digits read from the left onto the number v; refused as soon as it does not fit 32 bits
abbrev pub number_from : ℕ → List ℕ → Option ℕ
number_from v [] = Some v
number_from v (c ∷ cs) =
    pick (both (leb 48 c) (leb c 57)) (pick (leb (v * 10 + (c - 48)) 4294967295) (number_from (v * 10 + (c - 48)) cs) None) None

-- a whole number: at least one digit, no sign, no leading zero, below 2^32
unfoldable pub number_of : List ℕ → Option ℕ
number_of [] = None
number_of (c ∷ []) = number_from 0 (c ∷ [])
number_of (c ∷ d ∷ cs) = pick (eqb c 48) None (number_from 0 (c ∷ d ∷ cs))

-- a space and a whole number, up to the next space or the end
unfoldable pub stepped_of : Option ℕ → ℕ → Option Stepped
stepped_of (Some v) n = Some (record { value = v; used = n })
stepped_of None n = None

unfoldable pub step_of : List ℕ → Option Stepped
step_of [] = None
step_of (c ∷ cs) = pick (eqb c 32) (stepped_of (number_of (take (word_end cs) cs)) (word_end cs + 1)) None

-- what comes of a number and of the text behind it, or else `none`
abbrev pub with_step : {A : Type 0} → Option Stepped → A → (Stepped → A) → A
with_step None none f = none
with_step (Some r) none f = f r
