use native.Mathlib.Omega.{arith}
use Rattle.text.proofs.Tables.{word_none, word-part}
use Rattle.text.proofs.words.word_at.Goals as goal

pub returns-then-saturating_sub-n : goal.returns-then-saturating_sub-n
returns-then-saturating_sub-n c = let s = c.args in
    word_none s.text.now s.begins.now s.n (omega arith)

pub returns : goal.returns
returns c = let s = c.args in
    word-part s.text.now s.begins.now s.n _ _ (omega arith) c.least-to.ensures.is c.least-from.ensures.is
