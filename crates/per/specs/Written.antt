-- What writing a PDU gives: how many octets were written, or the number of a refusal. A pen gives the number that it holds; a PDU that is written gives the refusal
-- itself, and different refusals have different numbers.
use Rattle.std.specs.Prelude.{ℕ, Result, Ok, Err}
use Rattle.refusals.specs.declared.Refusal.{Refusal}
use Rattle.refusals.specs.Refusals.{number}

pub data Written : Type 0 where
  Octets : ℕ → Written
  Refused : ℕ → Written

-- the code's answers
abbrev pub handed : Result ℕ ℕ → Written
handed (Ok n) = Octets n
handed (Err n) = Refused n

abbrev pub told : Result ℕ Refusal → Written
told (Ok n) = Octets n
told (Err r) = Refused (number r)
