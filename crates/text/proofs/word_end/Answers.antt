use mathlib.Core.Path.{refl, sym, ◌∙◌}
use Rattle.std.proofs.Common.{◌≢◌, ◌≡◌, rules, tests, arith, ne_eqb}
use Rattle.std.proofs.lemmas.Iterator.{YieldsList-from_slice, IsFirst-from_position, index_from_first}
use Rattle.text.specs.Text.{word_end}
use Rattle.text.proofs.Counting.{word-within}
use Rattle.text.proofs.word_end.Goals as goal

pub returns : goal.returns
returns c = let s = c.args.s.now in
    let first = IsFirst-from_position _ _ _ (λ x. x ≡ 32) (λ x. x ≢ 32) c.position.ensures.ran (YieldsList-from_slice s cc) (λ x q k. search (rules, tests)) (λ x q k. search (rules, tests)) in
    let e = index_from_first word_end (λ x. x ≡ 32) (λ x. x ≢ 32) refl (λ x xs h. rw h) (λ x xs n. rw (ne_eqb x 32 n) (omega arith)) s _ first in
    let is = c.unwrap_or.ensures ∙ sym e in
    record { is = is; within = rw is (word-within s) }
