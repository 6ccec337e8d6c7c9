-- What this crate's own functions say to each other; no public contract cites it.
use Rattle.std.specs.Prelude.{ℕ, cond, eqb}
use Rattle.per.specs.declared.cursor.Cursor.{Cursor}
use Rattle.per.specs.declared.cursor.Read.{Read}
use Rattle.per.specs.Codec.{refuse}

-- a number that was read from the place j on, with the judgement n on it
unfoldable pub settled : Cursor → Read ℕ → ℕ → Read ℕ
settled j t n = cond (eqb t.next.refusal 0) (cond (eqb n 0) t (record { value = 0; next = refuse j.at n })) t
