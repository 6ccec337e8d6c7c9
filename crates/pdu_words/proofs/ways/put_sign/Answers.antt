use mathlib.Core.Path.{refl}
use borrow.Author.Tests.{lt-ltb, le-ltb}
use Rattle.pdu_words.specs.Ways.{sign_text}
use Rattle.pdu_words.proofs.ways.put_sign.Goals as goal

pub returns-then-n-lt2147483648 : goal.returns-then-n-lt2147483648
unfolding sign_text
returns-then-n-lt2147483648 c = rw (lt-ltb _ _ c.if-n-lt2147483648.true) (record { is = refl })

pub returns : goal.returns
unfolding sign_text
returns c = rw (le-ltb _ _ c.if-n-lt2147483648.false) c.put_byte.ensures
