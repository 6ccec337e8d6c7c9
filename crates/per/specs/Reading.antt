-- What the code's readings say: value and next cursor are those of the codec.
use Rattle.std.specs.Prelude.{ℕ, ◌≡◌, List}
use Rattle.per.specs.declared.cursor.Cursor.{Cursor}
use Rattle.per.specs.Codec.{Codec}
use Rattle.per.specs.Pdu.{window}

-- the code read this value and went to this cursor, as the codec does
pub record Reads {A : Type 0} (c : Codec A) (s : List ℕ) (j : Cursor) (value : A) (next : Cursor) : Type 0 where
  pub value_is : value ≡ (c.run (window s) j).value
  pub next_is : next ≡ (c.run (window s) j).next
