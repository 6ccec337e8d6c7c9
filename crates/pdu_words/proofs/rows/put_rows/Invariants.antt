use mathlib.Core.Path.{◌≡◌}
use lib.ListN.{drop}
use Rattle.text.specs.Page.{page, wrote}
use Rattle.pdu_words.specs.Rows.{rows_text}
use Rattle.pdu_words.specs.CodeRows.{rows_of}
use Rattle.pdu_words.proofs.rows.put_rows.Given as goal

abbrev pub invariant-loop-row : goal.invariant-loop-row
invariant-loop-row l = wrote (page l.out l.a) (rows_text (rows_of (drop l.row-index l.table)) l.f l.items) ≡ wrote (page l.initial.out l.at) (rows_text (rows_of l.table) l.f l.items)
