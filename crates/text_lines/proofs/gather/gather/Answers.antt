use mathlib.Core.Path.{refl}
use Rattle.std.proofs.Common.{◌≢◌, ◌≡◌, rules, tests}
use Rattle.std.proofs.lemmas.Iterator.{YieldsList-from_slice, IsFirst-from_position}
use Rattle.text_lines.proofs.Gathering.{feed_at, feed_none, left-from, gathers-feed, gathers-rest}
use Rattle.text_lines.proofs.gather.gather.Goals as goal

pub returns-in-Some : goal.returns-in-Some
returns-in-Some c = let s = c.args.piece.now in
    let f = IsFirst-from_position _ _ _ (λ x. x ≡ 10) (λ x. x ≢ 10) c.in-Some.ensures.ran (YieldsList-from_slice _ cc) (λ x q k. search (rules, tests)) (λ x q k. search (rules, tests)) in
    gathers-feed s c.args.from _ (left-from s _ c.args.from c.least.ensures.is) _ _ _ _ c.in-Some.k refl (feed_at _ c.in-Some.k f.0 f.1 f.2) c.put_text.ensures

pub returns-in-None : goal.returns-in-None
returns-in-None c = let s = c.args.piece.now in
    let f = IsFirst-from_position _ _ _ (λ x. x ≡ 10) (λ x. x ≢ 10) c.in-None.ensures.ran (YieldsList-from_slice _ cc) (λ x q k. search (rules, tests)) (λ x q k. search (rules, tests)) in
    gathers-rest s c.args.from _ (left-from s _ c.args.from c.least.ensures.is) _ _ _ _ refl (feed_none _ f) c.put_text-in-None.ensures
