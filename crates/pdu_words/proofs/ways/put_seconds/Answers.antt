use Rattle.text.proofs.Pages.{after}
use Rattle.pdu_words.specs.Ways.{seconds_text}
use Rattle.pdu_words.proofs.ways.put_seconds.Goals as goal

pub returns : goal.returns
unfolding seconds_text
returns c = after c.put_two-a.ensures c.put_tenth.ensures
