use Rattle.pdu.specs.UplinkTable.{ground_c}
use Rattle.adschost.proofs.Ways.{written-so}
use Rattle.adschost.proofs.messages.adsc_write_ground.Goals as goal

pub returns : goal.returns
returns c = let k = c.args in
    let g = c.ground_at in
    written-so ground_c g.result _ g.ensures k.out.now c.encode_ground.result _ c.encode_ground.ensures k.written.now _ _ c.tell.ensures
