use mathlib.Core.Path.{sym, ap}
use Rattle.pdu.specs.DownlinkTable.{air_c}
use Rattle.pdu.specs.Answers.{judged}
use Rattle.pdu.proofs.PduNames.{air-named}
use Rattle.pdu.proofs.Hearing.{heard-is}
use Rattle.pdu.proofs.decode_air.Goals as goal

pub returns-in-Some : goal.returns-in-Some
returns-in-Some c = heard-is air_c air-named c.start.ensures c.read-a.ensures c.finish-end.ensures c.of.ensures (sym (ap (judged _) c.in-Some.is))

pub returns-in-None : goal.returns-in-None
returns-in-None c = heard-is air_c air-named c.start.ensures c.read-a.ensures c.finish-end.ensures c.of.ensures (sym (ap (judged _) c.in-None.is))
