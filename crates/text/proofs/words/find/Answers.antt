use mathlib.Core.Path.{sym, ap, ◌∙◌}
use native.Mathlib.Omega.{arith}
use Rattle.text.specs.Words.{words_of}
use Rattle.text.specs.Text.{same_text}
use Rattle.text.proofs.Tables.{words-length, word-found, word-missing}
use Rattle.text.proofs.words.find.Goals as goal

pub returns-then-same : goal.returns-then-same
returns-then-same c = let s = c.args in
    let e = sym (ap (same_text s.w.now) c.word_at.ensures) ∙ sym c.same.ensures ∙ c.if-same.true in
    word-found s.w.now (words_of s.text.now s.begins.now) c.loop-n.n (omega (arith, words-length s.text.now s.begins.now)) e ∙ c.loop-n.invariant

pub returns : goal.returns
returns c = let s = c.args in
    word-missing s.w.now (words_of s.text.now s.begins.now) c.loop-n.n (omega (arith, words-length s.text.now s.begins.now)) ∙ c.loop-n.invariant
