-- What is said of a letter is never long. Assumes nothing.
use mathlib.Core.Path.{◌≡◌, refl}
use mathlib.Core.Bool.{true}
use mathlib.Core.List.{List, [], ◌∷◌, ◌++◌}
use Prim.Native.Nat.{ℕ, ◌≤◌}
use native.Mathlib.Nat.{le_trans, min-le_right}
use native.Mathlib.Omega.{arith}
use lib.Dec.{eqb, lit≤}
use lib.ListN.{length, take, length-append, length-take}
use Rattle.text.specs.Text.{both, decimal}
use Rattle.text.specs.Page.{Page}
use Rattle.text.specs.Words.{word_at}
use Rattle.text.proofs.Laws.{decimal-length}
use Rattle.text.proofs.Lengths.{of_two}
use Rattle.script.specs.Entries.{Names, spaced, brief_text, short_words}
use Rattle.script.specs.declared.answer.Brief.{Brief}
use Rattle.script.proofs.Short.{spaced-length, word-within, brief-length}
use Rattle.bench_line.specs.AnswerText as ground
use Rattle.air_line.specs.AnswerText as air
use Rattle.ground_answer.specs.declared.answer.Said as ground_said
use Rattle.air_answer.specs.declared.answer.Said as air_said
use Rattle.channel.specs.declared.Letter.{Letter}
use Rattle.delivery.specs.Hearing.{Carried, came, HEARD-MOST, Carries}
use Rattle.delivery.specs.declared.hear.Carried as code
use Rattle.delivery.specs.Deliveries.{heard_words, word_for, head_text, LETTER-MOST}

-- the first octets of some are no more
pub taken : (k : ℕ) (s : List ℕ) → length s ≤ 115 → length (take k s) ≤ 115
taken k s h = omega (arith, length-take k s, min-le_right k (length s))

-- an answer with which a PDU goes, and one came
answer-short : (n : Names) → both (short_words n.entries) (short_words n.timers) ≡ true → (b : Brief) (k : ℕ) (octets came : List ℕ) → length b.acts.list ≡ 8
    → length octets ≤ 115 → length came ≤ 115 → length (brief_text n b (take k octets) came) ≤ HEARD-MOST
answer-short n words b k octets came e p q = le_trans (brief-length 115 (lit≤ tt) n b (take k octets) came e words (taken k octets p) q) (lit≤ tt)

pub ground-short : (said : ground_said.Said) (came : List ℕ) → length said.acts.list ≡ 8 → length said.sent.octets ≤ 115 → length came ≤ 115
    → length (ground.answer_text said came) ≤ HEARD-MOST
unfolding ground.answer_text
ground-short said came = answer-short ground.ground_names refl (ground.brief_of said) said.sent.n said.sent.octets came

pub air-short : (said : air_said.Said) (came : List ℕ) → length said.acts.list ≡ 8 → length said.sent.octets ≤ 115 → length came ≤ 115
    → length (air.answer_text said came) ≤ HEARD-MOST
unfolding air.answer_text
air-short said came = answer-short air.air_names refl (air.brief_of said) said.sent.n said.sent.octets came

-- the octets that an end hears of a letter, and what stands before the answer to it
pub came-short : (l : Letter) → length l.octets ≡ 115 → length (came l) ≤ 115
unfolding came
came-short l e =
    let o = taken l.n l.octets (omega arith) in
    of_two l.up 115 _ _ o (of_two (eqb l.kind 3) 115 _ _ (omega arith) o)

head-short : (number i : ℕ) (l : Letter) → length l.octets ≡ 115 → length (head_text number i l) ≤ 450
unfolding head_text
head-short number i l e =
    let word = word_at heard_words (word_for l) in
    let heard = spaced (came l) in
    omega (arith, length-append (decimal number) ((46 ∷ []) ++ (decimal i ++ (word ++ (heard ++ (32 ∷ []))))), length-append (decimal i) (word ++ (heard ++ (32 ∷ []))), length-append word (heard ++ (32 ∷ [])), length-append heard (32 ∷ []), decimal-length number, decimal-length i, word-within heard_words (word_for l), spaced-length 115 (came l) (came-short l e))

-- the line for a letter
pub line-short : (number i : ℕ) (l : Letter) {x : Carried} {p q : Page} {r : code.Carried} → length l.octets ≡ 115 → Carries HEARD-MOST x p r q
    → length (head_text number i l ++ (x.text ++ (10 ∷ []))) ≤ LETTER-MOST
line-short number i l {x} e c =
    omega (arith, length-append (head_text number i l) (x.text ++ (10 ∷ [])), length-append x.text (10 ∷ []), head-short number i l e, c.short)
