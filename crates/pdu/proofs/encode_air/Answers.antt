use mathlib.Core.Path.{sym}
use lib.Dec.{lit≤}
use Rattle.per.proofs.Longest.{up}
use Rattle.per.proofs.Named.{write-named}
use Rattle.per.proofs.Sheets.{sheet-long}
use Rattle.pdu.specs.DownlinkTable.{air_c}
use Rattle.pdu.proofs.PduNames.{air-named}
use Rattle.pdu.proofs.DownlinkBounds.{air-most}
use Rattle.pdu.proofs.Sending.{sends}
use Rattle.pdu.proofs.encode_air.Goals as goal

pub slice_bounds-hand-end : goal.slice_bounds-hand-end
slice_bounds-hand-end c = sym (sheet-long air_c c.write-p.ensures)

pub hand-requires : goal.hand-requires
hand-requires c = write-named air_c air-named c.start.ensures c.write-p.ensures

pub returns : goal.returns
returns c = sends air_c (up (lit≤ tt) air-most) c.start.ensures c.write-p.ensures c.hand.ensures
