use Rattle.pdu.specs.DownlinkTable.{air_c}
use Rattle.adschost.proofs.Ways.{written-so}
use Rattle.adschost.proofs.messages.adsc_write_air.Goals as goal

pub returns : goal.returns
returns c = let k = c.args in
    let a = c.air_at in
    let w = c.encode_air in
    written-so air_c a.result _ a.ensures k.out.now w.result _ w.ensures k.written.now _ _ c.tell.ensures
