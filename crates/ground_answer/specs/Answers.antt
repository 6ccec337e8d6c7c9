-- What a call answers: the link after it, and what is said, namely the actions in order, the reason that an abort indication shows, and the octets of the PDU
-- that goes. No call sends two: the octets belong to the first request among the actions. An indication (5) is of the octets that came with the call.
use Rattle.std.specs.Prelude.{ℕ, Bool, []}
use Rattle.link.specs.Tests.{pick}
use Rattle.link.specs.Acts.{acts}
use Rattle.link.specs.declared.executor.Step.{Step}
use Rattle.ground_answer.specs.Record.{good, followed}
use Rattle.ground_answer.specs.declared.record.Link.{Link}
use Rattle.ground_answer.specs.Sent.{sent}
use Rattle.ground_answer.specs.declared.sent.Sent.{Sent}
use Rattle.ground_answer.specs.declared.answer.Answer.{Answer}
use Rattle.refusals.specs.Refusals.{BAD-RECORD}

-- entries of an action list beside link's own
abbrev pub START-REQUEST : ℕ
START-REQUEST = 1

abbrev pub END-REQUEST : ℕ
END-REQUEST = 3

abbrev pub LATE : ℕ
LATE = 8

-- "All return the number, no value and no actions; link and lent octets stay."
abbrev pub refusal : Link → ℕ → Answer
refusal l number = record { link = l; said = record { refusal = number; reason = 0; acts = acts []; sent = sent [] } }

-- an accepted call: the step that it makes
abbrev pub tells : Link → Step → ℕ → Sent → Answer
tells l s reason octets = record { link = followed l s; said = record { refusal = 0; reason = reason; acts = s.acts; sent = octets } }

-- with no abort shown and no PDU
abbrev pub quietly : Link → Step → Answer
quietly l s = tells l s 0 (sent [])

-- 29 before any other refusal of a call on a link
abbrev pub checked : Link → Answer → Answer
checked l a = pick (good l) a (refusal l BAD-RECORD)

-- then the refusal of a call that is not permitted
abbrev pub allowed : Link → Bool → ℕ → Answer → Answer
allowed l may number a = checked l (pick may a (refusal l number))
