-- What is heard of a PDU's octets, from what its reader, the judgement of its end and the refusal that is looked up say. Assumes nothing.
use Prim.Native.Nat.{ℕ, zero, suc}
use mathlib.Core.Path.{◌≡◌, refl, sym, ap, ◌∙◌}
use mathlib.Core.List.{List}
use Rattle.std.specs.Prelude.{Option, None, Some, Result, Ok, Err}
use Rattle.refusals.specs.declared.Refusal.{Refusal}
use Rattle.refusals.specs.Refusals.{number, number_or_none, Found}
use Rattle.refusals.proofs.Numbers.{number-alone, number-some}
use Rattle.per.specs.declared.cursor.Cursor.{Cursor}
use Rattle.per.specs.Codec.{Codec}
use Rattle.per.specs.Pdu.{window, start, finish, Answer, refused, answer, read_pdu}
use Rattle.per.specs.Reading.{Reads}
use Rattle.per.proofs.Ends.{answer-refused}
use Rattle.per.proofs.Named.{Refuses, pdu-found}
use Rattle.pdu.specs.Answers.{judged, heard, met, numbered}

-- what is answered of a value and a refusal is the definition's answer: of a refusal, and of any number
pub judged-heard : {A : Type 0} (o : Option Refusal) (a : A) → heard (judged a o) ≡ answer (number_or_none o) a
judged-heard None a = refl
judged-heard (Some r) a = sym (answer-refused (number r) a (number-some r))

pub judged-numbered : {A : Type 0} (n : ℕ) (a : A) → numbered (judged a (met n)) ≡ answer n a
judged-numbered zero a = refl
judged-numbered (suc n) a = refl

-- a whole PDU
pub heard-is : {A : Type 0} (c : Codec A) → Refuses c → {s : List ℕ} {j n e : Cursor} {v : A} {x : Option Refusal} {y : Result A Refusal} → j ≡ start s → Reads c s j v n
    → e ≡ finish (window s) n → Found e.refusal x → y ≡ judged v x → heard y ≡ read_pdu c s
heard-is c p b r f x y = ap heard y ∙ judged-heard _ _ ∙ sym (pdu-found c p b r f x)

-- ---- how tight the statement is: one answer
refused_number : {A : Type 0} (m n : ℕ) → ◌≡◌ {A = Answer A} (refused m) (refused n) → m ≡ n
refused_number m n e = cc

pub heard-alone : {A : Type 0} (x y : Result A Refusal) → heard x ≡ heard y → x ≡ y
heard-alone (Ok a) (Ok b) e = let h : a ≡ b = cc in ap Ok h
heard-alone (Ok a) (Err r) e = cc
heard-alone (Err q) (Ok b) e = cc
heard-alone (Err q) (Err r) e = ap Err (number-alone q r (refused_number _ _ e))
