-- A refusal is known from its number, and 0 is no refusal's: nothing is lost where numbers are looked at. Assumes nothing.
use Prim.Native.Nat.{ℕ}
use Rattle.std.proofs.Common.{◌≡◌, Option, Some, None, refl, sym, ap, ◌∙◌, arith}
use Rattle.refusals.specs.declared.Refusal.{Refusal}
use Rattle.refusals.specs.Refusals.{number, number_or_none, Found, Named}

-- different refusals have different numbers
pub number-alone : (r q : Refusal) → number r ≡ number q → r ≡ q
number-alone r q h = grind arith

pub number-some : (r : Refusal) → number r ≡ 0 → ⊥
number-some r h = grind arith

pub number_or_none-alone : (o p : Option Refusal) → number_or_none o ≡ number_or_none p → o ≡ p
number_or_none-alone None None h = refl
number_or_none-alone None (Some q) h = absurd (number-some q (sym h))
number_or_none-alone (Some r) None h = absurd (number-some r h)
number_or_none-alone (Some r) (Some q) h = ap Some (number-alone r q h)

-- what is looked up by a number is one
pub found-alone : {n : ℕ} (x y : Option Refusal) → Found n x → Found n y → x ≡ y
found-alone (Some r) y f g = sym (g.known r (f.only r refl))
found-alone None None f g = refl
found-alone None (Some q) f g = f.known q (g.only q refl)

-- of a number that is named, it has that number
pub found-named : {n : ℕ} (x : Option Refusal) → Named n → Found n x → number_or_none x ≡ n
found-named {n} x m f = go m.who x m.is f
  where
    go : (o x : Option Refusal) → number_or_none o ≡ n → Found n x → number_or_none x ≡ n
    go None None e f = e
    go None (Some r) e f = absurd (number-some r (f.only r refl ∙ sym e))
    go (Some r) x e f = ap number_or_none (f.known r e) ∙ e
