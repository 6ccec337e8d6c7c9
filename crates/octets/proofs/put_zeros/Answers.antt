use Rattle.octets.proofs.Words.{zeros-part, zeros-none}
use Rattle.octets.proofs.put_zeros.Goals as goal

pub returns-then-from-end : goal.returns-then-from-end
returns-then-from-end c = rw (c.fill.ensures.after (λ y e. e)) (zeros-part c.args.out.now c.args.from _ c.args.to c.min-end.ensures c.if-from-end.true)

pub returns-else-from-end : goal.returns-else-from-end
returns-else-from-end c = zeros-none c.args.out.now c.args.from _ c.args.to c.min-end.ensures c.if-from-end.false
