use Rattle.pdu_words.proofs.ListedWords.{word_in, word-past}
use Rattle.pdu_words.proofs.words.put_listed.Goals as goal

pub returns-then-k-end : goal.returns-then-k-end
returns-then-k-end c = let s = c.args in
    rw (← word_in s.list s.n c.number-from.result c.number-end.result c.number-from.ensures c.number-end.ensures c.if-k-end.true) c.put_name.ensures

pub returns : goal.returns
returns c = let s = c.args in
    word-past s.list s.n c.number-from.result c.number-end.result c.number-from.ensures c.number-end.ensures c.if-k-end.false
