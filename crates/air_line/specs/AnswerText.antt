-- An answer as text, in the words of the air side (F75: "answers as on the ground, with `start-rsp` and `end-rsp`").
use Rattle.std.specs.Prelude.{List, [], ◌∷◌, ℕ, ◌≤◌, length, take}
use Rattle.text.specs.Letters.{ascii}
use Rattle.text.specs.Page.{Page, Writes}
use Rattle.air_answer.specs.declared.answer.Said.{Said}
use Rattle.script.specs.Entries.{Names, names, brief_text}
use Rattle.script.specs.declared.answer.Brief.{Brief}

abbrev pub air_names : Names
air_names =
    names
    ([] ∷ ascii " start-rsp" ∷ ascii " data-req" ∷ ascii " end-rsp" ∷ ascii " abort-req" ∷ ascii " ind" ∷ ascii " ind abort " ∷ ascii " ind peer-abort" ∷ [])
    (ascii "EM3" ∷ [])

abbrev pub brief_of : Said → Brief
brief_of said = record { refusal = said.refusal; reason = said.reason; acts = said.acts }

-- the octets of a PDU go with the first of the entries for the dialogue service
unfoldable pub answer_text : Said → List ℕ → List ℕ
answer_text said came = brief_text air_names (brief_of said) (take said.sent.n said.sent.octets) came

-- what `put_answer` gives: the text, which is never long where no more octets came than a line has room for
pub record Answers (said : Said) (came : List ℕ) (p q : Page) : Type 0 where
  pub text_is : Writes p (answer_text said came) q
  pub short : length came ≤ 2048 → length (answer_text said came) ≤ 33000
