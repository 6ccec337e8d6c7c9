use mathlib.Core.Path.{sym}
use lib.Dec.{lit≤}
use Rattle.per.proofs.Longest.{up}
use Rattle.per.proofs.Named.{write-named}
use Rattle.per.proofs.Sheets.{sheet-long}
use Rattle.pdu.specs.UplinkTable.{ground_c}
use Rattle.pdu.proofs.PduNames.{ground-named}
use Rattle.pdu.proofs.UplinkBounds.{ground-most}
use Rattle.pdu.proofs.Sending.{sends}
use Rattle.pdu.proofs.encode_ground.Goals as goal

pub slice_bounds-hand-end : goal.slice_bounds-hand-end
slice_bounds-hand-end c = sym (sheet-long ground_c c.write-p.ensures)

pub hand-requires : goal.hand-requires
hand-requires c = write-named ground_c ground-named c.start.ensures c.write-p.ensures

pub returns : goal.returns
returns c = sends ground_c (up (lit≤ tt) ground-most) c.start.ensures c.write-p.ensures c.hand.ensures
