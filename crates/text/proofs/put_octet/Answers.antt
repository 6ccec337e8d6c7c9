use Rattle.text.proofs.Pages.{after}
use Rattle.text.proofs.put_octet.Goals as goal

pub returns : goal.returns
returns c = rw (← c.glyph.ensures, ← c.glyph-2.ensures) (after c.put_byte-b.ensures c.put_byte.ensures)
