use Prim.Native.Nat.{ℕ}
use mathlib.Core.Path.{sym, ap, ◌∙◌}
use mathlib.Core.List.{List}
use native.Mathlib.Omega.{arith}
use lib.ListN.{take}
use lib.Seq.{sets, length-take-le}
use Rattle.log_blocks.specs.Block.{check_of}
use Rattle.octets.specs.Octets.{quad, pair}
use Rattle.log_blocks.proofs.Seals.{sealed}
use Rattle.log_blocks.proofs.seal.Goals as goal

pub slice_bounds-check_of-end-2 : goal.slice_bounds-check_of-end-2
slice_bounds-check_of-end-2 c = sym (length-take-le 510 c.put_pair.new.out (omega (arith, c.put_pair.auto.out, c.put_word.auto.out, c.put_zeros.auto.out, c.requires)))

pub check_of-check-requires : goal.check_of-check-requires
check_of-check-requires c = omega (arith, length-take-le 510 c.put_pair.new.out (omega (arith, c.put_pair.auto.out, c.put_word.auto.out, c.put_zeros.auto.out, c.requires)))

pub returns : goal.returns
returns c = let q = c.put_pair-2 in
    let s = c.check_of-check in
    let x = c.put_pair in
    let y = c.put_word in
    let z = c.put_zeros in
    let n = c.args.number in
    let u = c.args.used in
    let e = x.ensures ∙ ap (λ (l : List ℕ). sets l 4 (pair u)) (y.ensures ∙ ap (λ (l : List ℕ). sets l 0 (quad n)) z.ensures) in
    q.ensures
    ∙ ap (λ (l : List ℕ). sets l 510 (pair s.result)) e
    ∙ sealed c.args.block.now n u c.requires.0 c.requires.1 s.result (s.ensures ∙ ap (λ (l : List ℕ). check_of (take 510 l)) e)
