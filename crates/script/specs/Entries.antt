-- An answer as text (01, "Bench examples"): "timers after `start` and `stop`; HEX after `start-req`, `data-req`, `end-req`, `abort-req` if a PDU goes, and after
-- `ind` (octets received; confirms too); `ind abort n`". Over the words of any side.
use Rattle.std.specs.Prelude.{◌≡◌, Bool, true, List, [], ◌∷◌, ◌++◌, ℕ, ◌-◌, ◌≤◌, eqb, leb, ltb, length, take}
use Rattle.text.specs.Letters.{ascii}
use Rattle.text.specs.Text.{pick, both, hex_text, decimal}
use Rattle.text.specs.Page.{Page, Writes}
use Rattle.text.specs.Words.{word_at, refused_text}
use Rattle.link.specs.Names.{ABORT-REQUEST, IND, ABORT-IND, STOP, START}
use Rattle.script.specs.declared.answer.Brief.{Brief}

-- a side's names: the words of the entries by their numbers, each with the space before it, and the timers in watch order
pub record Names : Type 0 where
  pub entries : List (List ℕ)
  pub timers : List (List ℕ)

abbrev pub names : List (List ℕ) → List (List ℕ) → Names
names es ts = record { entries = es; timers = ts }

-- a space and HEX, or nothing where there are no octets
unfoldable pub spaced : List ℕ → List ℕ
spaced [] = []
spaced (o ∷ os) = 32 ∷ hex_text (o ∷ os)

-- entries 1 to 4 are for the dialogue service
abbrev pub goes : ℕ → Bool
goes c = both (leb 1 c) (leb c ABORT-REQUEST)

-- what follows the word of an entry: the octets that go, those that came, the reason that is shown
unfoldable pub behind : ℕ → List ℕ → ℕ → List ℕ → List ℕ
behind c sent reason came = pick (goes c) (spaced sent) (pick (eqb c IND) (spaced came) (pick (eqb c ABORT-IND) (decimal reason) []))

unfoldable pub timer_entry : List (List ℕ) → ℕ → List ℕ
timer_entry timers c = pick (ltb c START) (ascii " stop " ++ word_at timers (c - STOP)) (ascii " start " ++ word_at timers (c - START))

-- one entry: its word and what follows it, or from 16 on what it does to a timer
unfoldable pub entry_text : Names → ℕ → List ℕ → ℕ → List ℕ → List ℕ
entry_text n c sent reason came = pick (ltb c STOP) (word_at n.entries c ++ behind c sent reason came) (timer_entry n.timers c)

-- the octets go with the first entry that is for the dialogue service, so none are left after it
unfoldable pub rest_of : ℕ → ℕ → ℕ
rest_of c k = pick (goes c) 0 k

-- the entries of a list, where the first k of the octets are still to go
abbrev pub entries_of : Names → List ℕ → List ℕ → ℕ → ℕ → List ℕ → List ℕ
entries_of n [] sent k reason came = []
entries_of n (c ∷ cs) sent k reason came = entry_text n c (take k sent) reason came ++ entries_of n cs sent (rest_of c k) reason came

-- an answer: `ok` and its entries, or `refused N`
unfoldable pub brief_text : Names → Brief → List ℕ → List ℕ → List ℕ
brief_text n b sent came =
    pick (eqb b.refusal 0) (ascii "ok" ++ entries_of n (take b.acts.n b.acts.list) sent (length sent) b.reason came)
    (refused_text b.refusal)

-- no word of a table is longer than 15 octets
abbrev pub short_words : List (List ℕ) → Bool
short_words [] = true
short_words (w ∷ ws) = both (leb (length w) 15) (short_words ws)

-- what `put_brief` gives: the text, which is never long where words are short and no more octets go or came than a line has room for
pub record Briefs (n : Names) (b : Brief) (sent came : List ℕ) (p q : Page) : Type 0 where
  pub text_is : Writes p (brief_text n b sent came) q
  pub short : both (short_words n.entries) (short_words n.timers) ≡ true → length sent ≤ 2048 → length came ≤ 2048
      → length (brief_text n b sent came) ≤ 33000
