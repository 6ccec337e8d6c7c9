-- The answers of reading and of writing a whole PDU, as the code gives them.
use Rattle.std.specs.Prelude.{ℕ, zero, suc, ◌≡◌, List, Option, None, Some, Result, Ok, Err}
use Rattle.refusals.specs.declared.Refusal.{Refusal}
use Rattle.refusals.specs.Refusals.{number}
use Rattle.per.specs.Codec.{Codec}
use Rattle.per.specs.Pdu.{Answer, got, refused}
use Rattle.per.specs.Written.{told}
use Rattle.per.specs.Writing.{write_pdu}

-- what is answered of a value and the first refusal met
abbrev pub judged : {A E : Type 0} → A → Option E → Result A E
judged a None = Ok a
judged a (Some e) = Err e

-- reading: the value, or the refusal
abbrev pub heard : {A : Type 0} → Result A Refusal → Answer A
heard (Ok a) = got a
heard (Err r) = refused (number r)

-- the same where the refusal is a number, any but 0, which is none
abbrev pub met : ℕ → Option ℕ
met zero = None
met (suc n) = Some (suc n)

abbrev pub numbered : {A : Type 0} → Result A ℕ → Answer A
numbered (Ok a) = got a
numbered (Err n) = refused n

-- writing: how many octets were written, or the refusal; and the output after it
pub record Sends {A : Type 0} (c : Codec A) (a : A) (o : List ℕ) (answer : Result ℕ Refusal) (octets : List ℕ) : Type 0 where
  pub answer_is : told answer ≡ (write_pdu c a o).answer
  pub octets_are : octets ≡ (write_pdu c a o).octets
