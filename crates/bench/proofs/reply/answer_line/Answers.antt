use Rattle.script.proofs.Ways.{line-play, line_set, line_other}
use Rattle.bench.specs.Replies.{ground_bench}
use Rattle.bench.proofs.reply.answer_line.Goals as goal

pub returns-then-b : goal.returns-then-b
returns-then-b c = rw (line-play ground_bench c.args.b c.args.line.now c.if-b.true) c.play.ensures

pub slice_bounds-set_line-count : goal.slice_bounds-set_line-count
slice_bounds-set_line-count c = c.in-Some.ensures.within

pub returns-in-Some : goal.returns-in-Some
returns-in-Some c = rw (line_set ground_bench c.args.b c.args.line.now c.if-b.false _ c.in-Some.ensures) c.set_line.ensures

pub returns-in-None : goal.returns-in-None
returns-in-None c = rw (line_other ground_bench c.args.b c.args.line.now c.if-b.false c.in-None.ensures) c.refuse_line.ensures
