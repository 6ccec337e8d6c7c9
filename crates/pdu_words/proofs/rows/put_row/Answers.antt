use Rattle.text.proofs.Pages.{after}
use mathlib.Core.Path.{refl}
use Rattle.pdu_words.specs.Rows.{row_text}
use Rattle.pdu_words.specs.CodeRows.{row_of}
use Rattle.pdu_words.proofs.rows.put_row.Goals as goal

pub returns-then-not-is_chosen : goal.returns-then-not-is_chosen
unfolding row_text
returns-then-not-is_chosen c = rw (← c.is_chosen.ensures, c.if-not-is_chosen.true) (record { is = refl })

pub returns : goal.returns
unfolding row_text row_of
returns c = rw (← c.is_chosen.ensures, c.if-not-is_chosen.false, ← c.number.ensures) (after c.put_name-a.ensures (after c.put_way-a.ensures c.put_name.ensures))
