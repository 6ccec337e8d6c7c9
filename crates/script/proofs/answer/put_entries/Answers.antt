use mathlib.Core.Path.{◌≡◌, refl, sym, ap, ◌∙◌}
use Prim.Native.Nat.{ℕ}
use lib.ListN.{length, take}
use lib.Seq.{length-take-le}
use Rattle.text.specs.Page.{page}
use Rattle.text.specs.Words.{words_of}
use Rattle.text.proofs.Laws.{take-least}
use Rattle.script.specs.Entries.{names}
use Rattle.script.proofs.Texts.{entry-end, entry-step}
use Rattle.std.proofs.Common.{rules}
use Rattle.script.proofs.answer.put_entries.Goals as goal

pub slice_bounds-put_entry-end : goal.slice_bounds-put_entry-end
slice_bounds-put_entry-end c = sym (length-take-le _ _ c.least-m.ensures.within)

pub loop-c-preserved : goal.loop-c-preserved
loop-c-preserved c = let k = c.loop-c in
    let ns = names (words_of c.args.words.now c.args.begins.now) (words_of c.args.timers.now c.args.starts.now) in
    let sent = c.args.sent.now in
    let m : take c.least-m.result sent ≡ take k.left sent =
    ap (λ (j : ℕ). take j sent) c.least-m.ensures.is ∙ take-least k.left (length sent) sent refl in
    (c.put_entry-a.auto.out ∙ k.invariant.0, entry-step ns _ sent k.c-index k.left _ c.args.b.reason c.args.came.now _ c.loop-c-test.true c.rest_of-left.ensures m c.put_entry-a.ensures ∙ k.invariant.1)

pub returns : goal.returns
returns c = let list = c.args.b.acts.list in
    let eight : length list ≡ 8 = search rules in
    let k = c.loop-c in
    let ns = names (words_of c.args.words.now c.args.begins.now) (words_of c.args.timers.now c.args.starts.now) in
    let e : take c.least-n.result list ≡ take c.args.b.acts.n list = ap (λ (j : ℕ). take j list) c.least-n.ensures.is ∙ take-least c.args.b.acts.n 8 list eight in
    record { is = rw (← e) (sym (entry-end (page k.out k.a) ns _ c.args.sent.now k.c-index k.left c.args.b.reason c.args.came.now c.loop-c-test.false) ∙ k.invariant.1) }
