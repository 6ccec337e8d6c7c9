use Rattle.text.proofs.Pages.{after}
use Rattle.host_lines.specs.Replies.{told_text}
use Rattle.host_lines.proofs.line.put_told.Goals as goal

pub returns : goal.returns
unfolding told_text
returns c = after c.put_decimal-a.ensures (after c.put_byte-b.ensures (after c.put_decimal-d.ensures (after c.put_byte-e.ensures (after c.put_hex-f.ensures (after c.put_byte-g.ensures c.put_hex.ensures)))))
