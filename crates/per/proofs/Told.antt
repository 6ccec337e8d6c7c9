-- An answer of the code is known whole from what is told of it in numbers. Assumes nothing.
use Prim.Native.Nat.{ℕ}
use mathlib.Core.Path.{◌≡◌, ap}
use Rattle.std.specs.Prelude.{Result, Ok, Err}
use Rattle.refusals.specs.declared.Refusal.{Refusal}
use Rattle.refusals.proofs.Numbers.{number-alone}
use Rattle.per.specs.Written.{Refused, handed, told}

refused-number : (m n : ℕ) → Refused m ≡ Refused n → m ≡ n
refused-number m n e = cc

pub handed-alone : (x y : Result ℕ ℕ) → handed x ≡ handed y → x ≡ y
handed-alone (Ok m) (Ok n) e = let h : m ≡ n = cc in ap Ok h
handed-alone (Ok m) (Err n) e = cc
handed-alone (Err m) (Ok n) e = cc
handed-alone (Err m) (Err n) e = ap Err (refused-number m n e)

pub told-alone : (x y : Result ℕ Refusal) → told x ≡ told y → x ≡ y
told-alone (Ok m) (Ok n) e = let h : m ≡ n = cc in ap Ok h
told-alone (Ok m) (Err r) e = cc
told-alone (Err q) (Ok n) e = cc
told-alone (Err q) (Err r) e = ap Err (number-alone q r (refused-number _ _ e))
