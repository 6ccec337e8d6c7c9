-- The words of a script.
use Rattle.std.specs.Prelude.{List, [], ◌∷◌}
use Rattle.script.specs.Fields.{NEVER, ALONE, HEX, NUMBER}
use Rattle.script.specs.Lines.{Word, word}

-- 01, "Script words", in its order from 1 on. `set` is for a box that has no settings yet
abbrev pub ground_words : List Word
ground_words =
    word "" NEVER ∷ word "set" NEVER ∷ word "req" HEX ∷ word "user-abort" ALONE ∷ word "elapse" NUMBER ∷ word "start-cnf" HEX ∷ word "start-rej" ALONE
    ∷ word "data" HEX ∷ word "end-cnf" ALONE ∷ word "peer-abort" ALONE ∷ word "air-abort" HEX ∷ word "down" ALONE ∷ []
