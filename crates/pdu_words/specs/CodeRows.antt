-- What the rows in the code stand for, and what they are made of; words stand there by their numbers. The proofs of `put_air` and `put_ground` compute that the code's rows are `air_rows` and
-- `ground_rows`, so that a reader of the words need not believe any of this.
use Rattle.std.specs.Prelude.{List, [], ◌∷◌, ℕ, ◌*◌, ◌^◌, eqb}
use Rattle.text.specs.Text.{pick}
use Rattle.text.specs.Words.{word_at}
use Rattle.pdu_words.specs.Names.{list_at, vocabulary}
use Rattle.pdu_words.specs.Ways.{Way, nothing, number, two, three, seconds, tens, octets, nth, word, list, names, tenths, signed, thousandths, quarters, mach_steps, time_steps, name_item, entry_item}
use Rattle.pdu_words.specs.Rows.{Guard, always, has, is, isnt, bits, Row}
use Rattle.pdu_words.specs.declared.ways.Way as code
use Rattle.pdu_words.specs.declared.ways.Way.TheVariants as ways
use Rattle.pdu_words.specs.declared.rows.Guard as code-guard
use Rattle.pdu_words.specs.declared.rows.Guard.TheVariants as guards
use Rattle.pdu_words.specs.declared.rows.Row as code-row

-- ways, with a list of words by its number. Entries of list 0 are names
unfoldable pub entries_of : ℕ → Way
entries_of l = pick (eqb l 0) names (list (list_at l))

unfoldable pub way_of : code.Way → Way
way_of ways.Nothing = nothing
way_of ways.Number = number
way_of ways.Two = two
way_of ways.Three = three
way_of ways.Seconds = seconds
way_of ways.Tens = tens
way_of ways.Octets = octets
way_of (ways.Word l) = word (list_at l)
way_of ways.Nth = nth
way_of (ways.List l) = entries_of l
way_of ways.Tenths = tenths
way_of ways.Signed = signed
way_of ways.Thousandths = thousandths
way_of ways.Quarters = quarters
way_of ways.MachSteps = mach_steps
way_of ways.TimeSteps = time_steps

-- of the octets of a list, by its number too: how one is shown, and how many `count` entries have
unfoldable pub item_of : ℕ → ℕ → ℕ → List ℕ
item_of l i c = pick (eqb l 0) (name_item i c) (entry_item (list_at l) i c)

unfoldable pub octets_in : ℕ → ℕ → ℕ
octets_in l count = pick (eqb l 0) (count * 8) count

unfoldable pub guard_of : code-guard.Guard → Guard
guard_of guards.Always = always
guard_of (guards.Bit p m) = has p (2 ^ m)
guard_of (guards.Same p m) = is p m
guard_of (guards.Other p m) = isnt p m
guard_of (guards.Masked p b m) = bits p b m

unfoldable pub row_of : code-row.Row → Row
row_of r =
    record {
      kinds = r.0;
      guard = guard_of r.1;
      label = word_at vocabulary r.2;
      way = way_of r.3;
      place = r.4;
      unit = word_at vocabulary r.5;
    }

abbrev pub rows_of : List code-row.Row → List Row
rows_of [] = []
rows_of (r ∷ rs) = row_of r ∷ rows_of rs
