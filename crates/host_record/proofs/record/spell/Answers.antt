use Rattle.host_record.specs.RecordLayout.{link_of}
use Rattle.host_record.proofs.record.spell.Goals as goal

pub returns : goal.returns
unfolding link_of
returns c = let n = c.numbers_in-n.ensures in rw (c.make.ensures, n.settings, n.lefts, c.word_in.ensures, c.word_in-2.ensures)
