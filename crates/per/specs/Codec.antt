-- What a codec is: how a value is read at a cursor, what refuses its writing, and its bits; with the laws that tie them.
-- A cursor that holds a refusal is kept, so the reader of several fields goes straight on.
use Rattle.std.specs.Prelude.{ℕ, zero, suc, ◌+◌, ◌≤◌, ◌≡◌, Bool, true, false, List, [], ◌++◌, length, drop}
use Rattle.per.specs.declared.cursor.Cursor.{Cursor}

-- what a reading gives: the value, and the cursor moved on
pub record Out (A : Type 0) : Type 0 where
  pub value : A
  pub next : Cursor

abbrev pub out : {A : Type 0} → A → Cursor → Out A
out a j = record { value = a; next = j }

-- the cursor at a place, with no refusal; and with the refusal n
abbrev pub place : ℕ → Cursor
place at = record { at = at; refusal = 0 }

abbrev pub refuse : ℕ → ℕ → Cursor
refuse at n = record { at = at; refusal = n }

-- the first of two refusals, where 0 is none
abbrev pub first : ℕ → ℕ → ℕ
first zero n = n
first (suc m) n = suc m

-- the refusal n where the test fails
abbrev pub unless : Bool → ℕ → ℕ
unless true n = 0
unless false n = n

-- the bits where there is no refusal
abbrev pub upto : ℕ → List Bool → List Bool
upto zero bs = bs
upto (suc n) bs = []

-- what is known of a value that was read and may be written: no part of it is not sent, and what is written is no longer than what was read
pub record Kept {A : Type 0} (chk : A → ℕ) (enc : A → List Bool) (norm : A → A) (at : ℕ) (r : Out A) : Type 0 where
  pub good : chk r.value ≡ 0
  pub same : norm r.value ≡ r.value
  pub short : at + length (enc r.value) ≤ r.next.at

-- what is known besides where it was read in the writer's own form: its bits are those that were passed
pub record Own {A : Type 0} (enc : A → List Bool) (bs : List Bool) (at : ℕ) (r : Out A) : Type 0 where
  pub moved : r.next ≡ place (at + length (enc r.value))
  pub bits : drop at bs ≡ enc r.value ++ drop (at + length (enc r.value)) bs

-- `run` reads; `none` stands beside a refusal. `chk` is the refusal of a write, 0 where the value may be written. `enc` are a value's bits,
-- up to the field that is refused. `norm` is the value with its absent parts made 0, or what an absent part reads as.
-- `form` is of what stands at a place: 0 the writer's own form of a value, 1 another form of it, 2 a form of a value that may not be written.
-- `stuck`: a refusal is kept. `there`: what is written reads back. `room`: no reading passes the end.
-- `kept`: what is read may be written, and loses nothing. `back`: what is read in the writer's own form writes back bit for bit.
pub record Codec (A : Type 0) : Type 0 where
  pub none : A
  pub run : List Bool → Cursor → Out A
  pub chk : A → ℕ
  pub enc : A → List Bool
  pub norm : A → A
  pub form : List Bool → Cursor → ℕ
  pub stuck : (bs : List Bool) (j : Cursor) → (j.refusal ≡ 0 → ⊥) → run bs j ≡ out none j
  pub there : (a : A) (bs rest : List Bool) (j : Cursor) → chk a ≡ 0 → j.refusal ≡ 0 → drop j.at bs ≡ enc a ++ rest
      → run bs j ≡ out (norm a) (place (j.at + length (enc a)))
  pub room : (bs : List Bool) (j : Cursor) → (run bs j).next.refusal ≡ 0 → j.at ≤ length bs → (run bs j).next.at ≤ length bs
  pub kept : (bs : List Bool) (j : Cursor) → (run bs j).next.refusal ≡ 0 → form bs j ≤ 1 → Kept chk enc norm j.at (run bs j)
  pub back : (bs : List Bool) (j : Cursor) → (run bs j).next.refusal ≡ 0 → form bs j ≡ 0 → Own enc bs j.at (run bs j)

-- no form beyond n: with 0 there is the writer's own form alone, with 1 every value that is read may be written
pub record Within {A : Type 0} (n : ℕ) (c : Codec A) : Type 0 where
  pub most : (bs : List Bool) (j : Cursor) → c.form bs j ≤ n
