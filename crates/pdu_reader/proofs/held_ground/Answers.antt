use Rattle.pdu.specs.UplinkTable.{ground_c}
use Rattle.pdu.proofs.PduNames.{ground-named}
use Rattle.pdu.proofs.Hearing.{heard-is}
use Rattle.pdu_reader.proofs.held_ground.Goals as goal

pub returns : goal.returns
returns c = heard-is ground_c ground-named c.start.ensures c.ground_from-g.ensures c.end_from-end.ensures c.of.ensures c.answer.ensures
