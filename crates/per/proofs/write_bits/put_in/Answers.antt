use Prim.Native.Nat.{◌-◌}
use native.Mathlib.Omega.{arith}
use Rattle.per.proofs.Parts.{merges}
use Rattle.per.proofs.Puts.{put_in, put-past}
use lib.ListN.{get_or}
use Rattle.per.proofs.write_bits.put_in.Goals as goal

pub nonzero_div-old : goal.nonzero_div-old
nonzero_div-old c = omega (arith, merges (get_or c.args.out.now c.args.i 0) (8 - c.args.k - c.args.n) c.args.n c.args.v c.wide-x.result c.pow2-q.result c.pow2-p.result c.wide-x.ensures.0 c.pow2-q.ensures c.pow2-p.ensures (omega arith) (omega arith))

pub nonzero_rem-old : goal.nonzero_rem-old
nonzero_rem-old c = omega (arith, merges (get_or c.args.out.now c.args.i 0) (8 - c.args.k - c.args.n) c.args.n c.args.v c.wide-x.result c.pow2-q.result c.pow2-p.result c.wide-x.ensures.0 c.pow2-q.ensures c.pow2-p.ensures (omega arith) (omega arith))

pub overflow_mul-out : goal.overflow_mul-out
overflow_mul-out c = omega (arith, merges (get_or c.args.out.now c.args.i 0) (8 - c.args.k - c.args.n) c.args.n c.args.v c.wide-x.result c.pow2-q.result c.pow2-p.result c.wide-x.ensures.0 c.pow2-q.ensures c.pow2-p.ensures (omega arith) (omega arith))

pub overflow_sub-out : goal.overflow_sub-out
overflow_sub-out c = omega (arith, merges (get_or c.args.out.now c.args.i 0) (8 - c.args.k - c.args.n) c.args.n c.args.v c.wide-x.result c.pow2-q.result c.pow2-p.result c.wide-x.ensures.0 c.pow2-q.ensures c.pow2-p.ensures (omega arith) (omega arith))

pub nonzero_rem-out : goal.nonzero_rem-out
nonzero_rem-out c = omega (arith, merges (get_or c.args.out.now c.args.i 0) (8 - c.args.k - c.args.n) c.args.n c.args.v c.wide-x.result c.pow2-q.result c.pow2-p.result c.wide-x.ensures.0 c.pow2-q.ensures c.pow2-p.ensures (omega arith) (omega arith))

pub overflow_mul-out-then-i-lt128 : goal.overflow_mul-out-then-i-lt128
overflow_mul-out-then-i-lt128 c = omega (arith, merges (get_or c.args.out.now c.args.i 0) (8 - c.args.k - c.args.n) c.args.n c.args.v c.wide-x.result c.pow2-q.result c.pow2-p.result c.wide-x.ensures.0 c.pow2-q.ensures c.pow2-p.ensures (omega arith) (omega arith))

pub overflow_add-out : goal.overflow_add-out
overflow_add-out c = omega (arith, merges (get_or c.args.out.now c.args.i 0) (8 - c.args.k - c.args.n) c.args.n c.args.v c.wide-x.result c.pow2-q.result c.pow2-p.result c.wide-x.ensures.0 c.pow2-q.ensures c.pow2-p.ensures (omega arith) (omega arith))

pub overflow_cast-out : goal.overflow_cast-out
overflow_cast-out c = omega (arith, merges (get_or c.args.out.now c.args.i 0) (8 - c.args.k - c.args.n) c.args.n c.args.v c.wide-x.result c.pow2-q.result c.pow2-p.result c.wide-x.ensures.0 c.pow2-q.ensures c.pow2-p.ensures (omega arith) (omega arith))

pub returns-then-i-lt128 : goal.returns-then-i-lt128
returns-then-i-lt128 c = put_in _ _ _ _ _ _ (omega arith) (omega arith) (merges (get_or c.args.out.now c.args.i 0) (8 - c.args.k - c.args.n) c.args.n c.args.v c.wide-x.result c.pow2-q.result c.pow2-p.result c.wide-x.ensures.0 c.pow2-q.ensures c.pow2-p.ensures (omega arith) (omega arith)).is

pub returns-else-i-lt128 : goal.returns-else-i-lt128
returns-else-i-lt128 c = put-past _ _ _ (omega arith)
