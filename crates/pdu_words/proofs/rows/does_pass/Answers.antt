use Rattle.pdu_words.specs.Rows.{passes}
use Rattle.pdu_words.specs.CodeRows.{guard_of}
use Rattle.pdu_words.proofs.Loops.{no-bit}
use Rattle.pdu_words.proofs.rows.does_pass.Goals as goal

pub returns-else-m-lt32 : goal.returns-else-m-lt32
unfolding passes guard_of
returns-else-m-lt32 c = rw c.in-Bit.is (no-bit _ c.in-Bit.m (c.type_inv.f c.in-Bit.at).fits c.if-m-lt32.false)
