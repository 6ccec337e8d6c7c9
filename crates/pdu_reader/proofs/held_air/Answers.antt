use Rattle.pdu.specs.DownlinkTable.{air_c}
use Rattle.pdu.proofs.PduNames.{air-named}
use Rattle.pdu.proofs.Hearing.{heard-is}
use Rattle.pdu_reader.proofs.held_air.Goals as goal

pub returns : goal.returns
returns c = heard-is air_c air-named c.start.ensures c.air_from-a.ensures c.end_from-end.ensures c.of.ensures c.answer.ensures
