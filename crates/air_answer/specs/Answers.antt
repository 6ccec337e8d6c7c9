-- What a call answers: the link after it, and what is said, namely the actions in order, the reason that an abort indication shows, and the octets of the PDU
-- that goes. No call sends two: the octets belong to the first of 1 to 4 among the actions. An indication (5) is of the octets that came with the call.
use Rattle.std.specs.Prelude.{Bool, [], ℕ}
use Rattle.link.specs.Tests.{pick}
use Rattle.link.specs.Acts.{acts}
use Rattle.link.specs.declared.executor.Step.{Step}
use Rattle.air_answer.specs.Record.{good, followed}
use Rattle.air_answer.specs.declared.record.AirLink.{AirLink}
use Rattle.air_answer.specs.Sent.{sent}
use Rattle.air_answer.specs.declared.sent.Sent.{Sent}
use Rattle.air_answer.specs.declared.answer.Answer.{Answer}
use Rattle.refusals.specs.Refusals.{BAD-RECORD}

-- entries of an action list beside link's own
abbrev pub START-RESPONSE : ℕ
START-RESPONSE = 1

abbrev pub END-RESPONSE : ℕ
END-RESPONSE = 3

-- "All return the number, no value and no actions; link and lent octets stay."
abbrev pub refusal : AirLink → ℕ → Answer
refusal l number = record { link = l; said = record { refusal = number; reason = 0; acts = acts []; sent = sent [] } }

-- an accepted call: the step that it makes
abbrev pub tells : AirLink → Step → ℕ → Sent → Answer
tells l s reason octets = record { link = followed l s; said = record { refusal = 0; reason = reason; acts = s.acts; sent = octets } }

-- 29 before any other refusal of a call on a link
abbrev pub checked : AirLink → Answer → Answer
checked l a = pick (good l) a (refusal l BAD-RECORD)

-- then the refusal of a call that is not permitted
abbrev pub allowed : AirLink → Bool → ℕ → Answer → Answer
allowed l may number a = checked l (pick may a (refusal l number))
