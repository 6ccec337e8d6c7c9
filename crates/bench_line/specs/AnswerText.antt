-- An answer as text (01, "Bench examples"), in the words of the ground: "`start-req`, `data-req`, `end-req`, `abort-req` .. `ind` .. `ind abort n`,
-- `ind peer-abort`, `late`."
use Rattle.std.specs.Prelude.{List, [], ◌∷◌, ℕ, ◌≤◌, length, take}
use Rattle.text.specs.Letters.{ascii}
use Rattle.text.specs.Page.{Page, Writes}
use Rattle.ground_answer.specs.declared.answer.Said.{Said}
use Rattle.script.specs.Entries.{Names, names, brief_text}
use Rattle.script.specs.declared.answer.Brief.{Brief}

abbrev pub ground_names : Names
ground_names =
    names
    ([] ∷ ascii " start-req" ∷ ascii " data-req" ∷ ascii " end-req" ∷ ascii " abort-req" ∷ ascii " ind" ∷ ascii " ind abort " ∷ ascii " ind peer-abort"
    ∷ ascii " late" ∷ [])
    (ascii "DC1" ∷ ascii "DC2" ∷ ascii "EC1" ∷ ascii "EC2" ∷ ascii "PC1" ∷ ascii "PC2" ∷ ascii "PC3" ∷ ascii "EM1" ∷ ascii "EM2" ∷ ascii "LI1" ∷ [])

abbrev pub brief_of : Said → Brief
brief_of said = record { refusal = said.refusal; reason = said.reason; acts = said.acts }

-- the octets of a PDU go with the first request
unfoldable pub answer_text : Said → List ℕ → List ℕ
answer_text said came = brief_text ground_names (brief_of said) (take said.sent.n said.sent.octets) came

-- what `put_answer` gives: the text, which is never long where no more octets came than a line has room for
pub record Answers (said : Said) (came : List ℕ) (p q : Page) : Type 0 where
  pub text_is : Writes p (answer_text said came) q
  pub short : length came ≤ 2048 → length (answer_text said came) ≤ 33000
