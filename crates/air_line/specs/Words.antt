-- The words of an air script.
use Rattle.std.specs.Prelude.{List, [], ◌∷◌}
use Rattle.script.specs.Fields.{NEVER, ALONE, HEX, NUMBER}
use Rattle.script.specs.Lines.{Word, word}

-- F75, in its order from 1 on: "`set N`, `req HEX`, `user-abort`, `elapse N`, `start-ind HEX`, `data HEX`, `end-ind HEX`, `peer-abort`, `ground-abort HEX`,
-- `down`". `set` is for a box that has no setting yet
abbrev pub air_words : List Word
air_words =
    word "" NEVER ∷ word "set" NEVER ∷ word "req" HEX ∷ word "user-abort" ALONE ∷ word "elapse" NUMBER ∷ word "start-ind" HEX ∷ word "data" HEX
    ∷ word "end-ind" HEX ∷ word "peer-abort" ALONE ∷ word "ground-abort" HEX ∷ word "down" ALONE ∷ []
