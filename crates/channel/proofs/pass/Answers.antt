use Rattle.channel.proofs.Laws.{length-mapped, first-least, pass-moves}
use Rattle.text.specs.Text.{Least}
use lib.ListN.{length, take}
use mathlib.Core.List.{List}
use mathlib.Core.Path.{◌≡◌, ap, ◌∙◌}
use Prim.Native.Nat.{ℕ}
use native.Mathlib.Omega.{arith}
use Rattle.channel.specs.declared.Letter.{Letter}
use Rattle.channel.specs.Channel.{held_in}
use Rattle.std.proofs.Common.{rules}
use Rattle.channel.proofs.pass.Goals as goal

held : (n : ℕ) (ls : List Letter) (r : ℕ) → length ls ≡ 17 → Least n 17 r → take r ls ≡ take n ls
held n ls r w l = ap (λ (k : ℕ). take k ls) l.is ∙ first-least n 17 ls w

pub returns-then-n-eq0 : goal.returns-then-n-eq0
unfolding held_in
returns-then-n-eq0 c = let whole : length c.args.c.letters ≡ 17 = search (rules, length-mapped) in rw (← held _ _ _ whole c.least-n.ensures, c.if-n-eq0.true)

pub returns : goal.returns
unfolding held_in
returns c = let whole : length c.args.c.letters ≡ 17 = search (rules, length-mapped) in
    rw (← held _ _ _ whole c.least-n.ensures) (pass-moves c.args.c.letters _ c.least-n.result (omega arith) (omega (arith, whole, c.least-n.ensures.within)) c.copy_within.ensures.after)
