use Rattle.text.proofs.words.put_word.Goals as goal

pub returns : goal.returns
returns c = rw (← c.word_at.ensures) c.put_text.ensures
