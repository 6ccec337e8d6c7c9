-- What this crate's own functions say to each other; no public contract cites it.
use Rattle.std.specs.Prelude.{ℕ, ◌-◌, ◌≡◌, List, ◌++◌, replicate}
use Rattle.per.specs.Codec.{Codec}
use Rattle.per.specs.Formats.{vec}
use Rattle.per.specs.Pdu.{window}
use Rattle.per.specs.declared.cursor.Cursor.{Cursor}

-- n entries were read, into an array that is 0 after them
pub record Filled (c : Codec ℕ) (n : ℕ) (s : List ℕ) (j : Cursor) (items : List ℕ) (next : Cursor) : Type 0 where
  pub items_are : items ≡ ((vec c n).run (window s) j).value ++ replicate (128 - n) 0
  pub next_is : next ≡ ((vec c n).run (window s) j).next
