-- Calls on a record that the host keeps as octets. "link and lent octets stay" where a call is refused.
use Rattle.std.specs.Prelude.{◌≡◌, List, [], ◌∷◌, ℕ, eqb, ltb, length, replicate}
use Rattle.std.proofs.lemmas.List.Edits.{sets}
use Rattle.link.specs.Tests.{pick}
use Rattle.link.specs.Names.{timers}
use Rattle.ground_answer.specs.declared.answer.Answer.{Answer}
use Rattle.ground_answer.specs.declared.answer.Said.{Said}
use Rattle.ground_answer.specs.declared.fresh.Opened.{Opened}
use Rattle.ground.specs.declared.call.Call.{Call}
use Rattle.ground_answer.specs.Fresh.{opened}
use Rattle.ground.specs.Runs.{answered, Made}
use Rattle.host_record.specs.RecordLayout.{RECORD-OCTETS, link_of, record_octets}
use Rattle.host_record.specs.AnswerLayout.{answer_octets, ANSWER-OCTETS}
use Rattle.refusals.specs.Refusals.{BAD-RECORD, BAD-SETTING, NO-ROOM}

-- the number that a call gives, and the two buffers after it
pub record Done : Type 0 where
  pub number : ℕ
  pub link : List ℕ
  pub answer : List ℕ

-- a refusal: both buffers stay
abbrev pub left : ℕ → List ℕ → List ℕ → Done
left n s o = record { number = n; link = s; answer = o }

-- an accepted call writes both buffers; 6 comes last
unfoldable pub told : List ℕ → List ℕ → Answer → Done
told s o a =
    pick (eqb a.said.refusal 0)
    (pick (ltb (length o) ANSWER-OCTETS) (left NO-ROOM s o) (record { number = 0; link = record_octets a.link; answer = sets o 0 (answer_octets a.said) }))
    (left a.said.refusal s o)

-- the call by value on the record that the octets spell; other lengths are no record: 29
unfoldable pub hosted : Call → List ℕ → List ℕ → List ℕ → Done
hosted call octets s o = pick (eqb (length s) RECORD-OCTETS) (told s o (answered (link_of s) call octets)) (left BAD-RECORD s o)

-- what is said, and the link that the octets spell after it
abbrev pub spelled : List ℕ → Said → Answer
spelled s r = record { link = link_of s; said = r }

-- the record after a sequence of calls, each with room for its answer
unfoldable pub kept : List ℕ → List Made → List ℕ
kept s [] = s
kept s (c ∷ cs) = kept (hosted c.call c.octets s (replicate ANSWER-OCTETS 0)).link cs

pub record Hosts (d : Done) (r : ℕ) (link answer : List ℕ) : Type 0 where
  pub number_is : r ≡ d.number
  pub link_is : link ≡ d.link
  pub answer_is : answer ≡ d.answer

-- the same with all that is said: where the call is accepted, this and the record after it are the call's answer by value
pub record Serves (call : Call) (octets s o : List ℕ) (r : Said) (link answer : List ℕ) : Type 0 where
  pub hosts : Hosts (hosted call octets s o) r.refusal link answer
  pub answer_is : r.refusal ≡ 0 → spelled link r ≡ answered (link_of s) call octets

-- ---- a new link
-- missing settings count as 0
unfoldable pub settings_of : List ℕ → List ℕ
settings_of f = sets (replicate timers 0) 0 f

pub record Opening : Type 0 where
  pub number : ℕ
  pub link : List ℕ

unfoldable pub opens_into : List ℕ → Opened → Opening
opens_into s o =
    pick (eqb o.refusal 0)
    (pick (eqb (length s) RECORD-OCTETS) (record { number = 0; link = record_octets o.link }) (record { number = NO-ROOM; link = s }))
    (record { number = o.refusal; link = s })

-- other than ten settings: 3
unfoldable pub made : List ℕ → List ℕ → Opening
made f s = pick (eqb (length f) timers) (opens_into s (opened (settings_of f))) (record { number = BAD-SETTING; link = s })

pub record Makes (d : Opening) (r : ℕ) (link : List ℕ) : Type 0 where
  pub number_is : r ≡ d.number
  pub link_is : link ≡ d.link
