-- The answer to a line, as text.
use Rattle.std.specs.Prelude.{List, [], ◌∷◌, ◌++◌, ℕ, eqb, ltb, length, take, drop}
use Rattle.text.specs.Text.{pick, word_end, decimal, hex_text}
use Rattle.text.specs.Words.{refused_text}
use Rattle.refusals.specs.Refusals.{SCRIPT-LINE}
use Rattle.host_lines.specs.Fields.{Ask, unread, asks, asked}
use Rattle.host_lines.specs.Calls.{After, word_of, called}

-- `NUMBER LENGTH LINK OUT`
unfoldable pub told_text : ℕ → ℕ → List ℕ → List ℕ → List ℕ
told_text number told link out = decimal number ++ ((32 ∷ []) ++ (decimal told ++ ((32 ∷ []) ++ (hex_text link ++ ((32 ∷ []) ++ hex_text out)))))

abbrev pub after_text : After → List ℕ
after_text a = told_text a.number a.told a.link a.out

-- the call of the word with the number w; "script line not readable" is 17
unfoldable pub ask_text : ℕ → Ask → List ℕ
ask_text w unread = refused_text SCRIPT-LINE
ask_text w (asks link octets out numbers) = after_text (called w link octets numbers out)

unfoldable pub word_text : ℕ → List ℕ → List ℕ
word_text w tail = pick (eqb w 0) (refused_text SCRIPT-LINE) (ask_text w (asked tail))

-- "lines over 4,096 octets are 17"
unfoldable pub line_text : List ℕ → List ℕ
line_text line = pick (ltb 4096 (length line)) (refused_text SCRIPT-LINE) (word_text (word_of (take (word_end line) line)) (drop (word_end line) line))
