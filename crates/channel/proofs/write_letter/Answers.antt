use mathlib.Core.Path.{◌≡◌, sym, ap, ◌∙◌}
use Prim.Native.Nat.{ℕ}
use lib.ListN.{length, take}
use lib.Seq.{length-take-le}
use native.Mathlib.Omega.{arith}
use Rattle.text.proofs.Laws.{take_min}
use Rattle.channel.specs.Channel.{letter_of, no_octets}
use Rattle.channel.proofs.Laws.{octets-put}
use Rattle.channel.proofs.write_letter.Goals as goal

pub returns : goal.returns
unfolding letter_of no_octets
returns c = let s = c.args.s.now in
    let r = c.least-n.ensures.is in
    let e : take c.least-n.result s ≡ take 115 s = ap (λ (j : ℕ). take j s) r ∙ take_min 115 s in
    let n : c.least-n.result ≡ length (take 115 s) = sym (length-take-le c.least-n.result s c.least-n.ensures.within) ∙ ap length e in
    rw (octets-put no_octets (take 115 s) _ c.least-n.result (c.copy_from_slice.ensures.after ∙ e) n (omega arith)) (rw n)
