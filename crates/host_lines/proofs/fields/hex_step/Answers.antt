use Rattle.host_lines.proofs.FieldLaws.{hold-none, hold-bad, hold-good}
use Rattle.std.proofs.Common.{rules}
use Rattle.host_lines.proofs.fields.hex_step.Goals as goal

pub returns-then-s-eq0 : goal.returns-then-s-eq0
returns-then-s-eq0 c = hold-none _ c.args.s.now _ c.if-s-eq0.true

pub returns-then-s-ne32 : goal.returns-then-s-ne32
returns-then-s-ne32 c = hold-bad _ c.args.s.now _ c.if-s-eq0.false c.if-s-ne32.true

pub returns : goal.returns
returns c = hold-good c.args.s.now c.args.out.now _ c.word_end-e.result c.parse_hex-h.result c.field_of.result c.if-s-eq0.false c.if-s-ne32.false c.word_end-e.ensures.is (search rules) c.parse_hex-h.ensures c.field_of.ensures
