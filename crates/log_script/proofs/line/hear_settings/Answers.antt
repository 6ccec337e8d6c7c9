use mathlib.Core.Path.{sym, ◌∙◌}
use Rattle.log_script.proofs.Ways.{hears-as, bad-heard, unopened-heard, opened-hears}
use Rattle.log_script.proofs.line.hear_settings.Goals as goal

pub returns-in_default : goal.returns-in_default
returns-in_default c = let a = c.args in
    hears-as _ _ (bad-heard a.b a.tail.now (sym c.in_default.is ∙ c.parse_settings.ensures)) (c.nothing.ensures _)

pub returns-then-o-ne0 : goal.returns-then-o-ne0
returns-then-o-ne0 c = let a = c.args in
    let o = c.open-o in
    hears-as _ _ (unopened-heard a.b a.tail.now _ c.in-Some.ensures o.result o.ensures c.if-o-ne0.true) (c.nothing-then-o-ne0.ensures _)

pub returns : goal.returns
returns c = let a = c.args in
    let o = c.open-o in
    opened-hears a.b a.tail.now _ c.in-Some.ensures o.result o.ensures c.if-o-ne0.false _ _ c.put_settings-len.ensures
