use mathlib.Core.Path.{◌≡◌, refl, sym, ap, ◌∙◌}
use mathlib.Core.Bool.{Bool, true, false}
use native.Mathlib.Omega.{arith}
use Rattle.std.specs.Prelude.{Some, None, Ok}
use Rattle.std.specs.Bool.{then_some}
use Rattle.link.specs.Tests.{pick}
use Rattle.log_blocks.specs.declared.Tape.{Tape}
use Rattle.log_blocks.proofs.Seals.{fits, not-closed, closed}
use Rattle.log_blocks.proofs.finish.Goals as goal

picked : (b : Bool) (t : Tape) → then_some b t ≡ pick b (Some t) None
picked true t = refl
picked false t = refl

pub returns-then-not-fits : goal.returns-then-not-fits
returns-then-not-fits c = let a = c.args in
    not-closed a.t a.block.now (sym c.fits.ensures ∙ c.if-not-fits.true)

pub seal-requires : goal.seal-requires
seal-requires c = let f = fits c.args.t _ (sym c.fits.ensures ∙ c.if-not-fits.false) in
    (f.long, f.room)

pub overflow_add-number : goal.overflow_add-number
overflow_add-number c = let f = fits c.args.t _ (sym c.fits.ensures ∙ c.if-not-fits.false) in
    omega (arith, f.number)

pub returns : goal.returns
returns c = let a = c.args in
    let w = closed a.t a.block.now (sym c.fits.ensures ∙ c.if-not-fits.false) in
    record { answer_is = ap Ok (c.then_some.ensures ∙ picked _ _) ∙ w.answer_is; block_is = c.seal.ensures ∙ w.block_is }
