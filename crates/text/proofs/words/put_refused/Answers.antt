use Rattle.text.specs.Words.{refused_text}
use Rattle.text.proofs.Pages.{after}
use Rattle.text.proofs.words.put_refused.Goals as goal

pub returns : goal.returns
unfolding refused_text
returns c = after c.put_text-a.ensures c.put_decimal.ensures
