-- What the user asks: LI's table of 01. The order of refusals is 29, then 1, then the fields'.
use Rattle.std.specs.Prelude.{not, ℕ, eqb}
use Rattle.pdu.specs.declared.uplink.Ground.{Ground}
use Rattle.pdu.specs.declared.uplink.Ground.TheVariants.{CancelAll}
use Rattle.link.specs.Tests.{pick}
use Rattle.link.specs.Step.{performed, stopped}
use Rattle.link.specs.Watch.{li_is}
use Rattle.ground_tables.specs.Names.{LI-IDLE, LI-START, LI-ACTIVE}
use Rattle.ground_tables.specs.Moves.{li_end}
use Rattle.ground_answer.specs.Record.{loads, cleared, move_at, agreed_at, went}
use Rattle.ground_answer.specs.declared.record.Link.{Link}
use Rattle.ground_answer.specs.Events.{cancel_all, request_event, asks_for}
use Rattle.ground_answer.specs.Sent.{outgoing}
use Rattle.ground_answer.specs.Answers.{START-REQUEST, END-REQUEST, refusal, tells, checked, allowed}
use Rattle.ground_answer.specs.Aborts.{closed_when}
use Rattle.ground_answer.specs.declared.answer.Answer.{Answer}
use Rattle.refusals.specs.Refusals.{NOT-PERMITTED}
use Rattle.link.specs.Names.{DATA-REQUEST, ABORT-REQUEST}
use Rattle.link.specs.Moves.{does_go}

-- a module's request, with LI at li from then on: 1 where no row has it, then what its fields are refused with, else the move
unfoldable pub asked : Link → Ground → ℕ → ℕ → Answer
asked l g li entry =
    pick (does_go (move_at l li (request_event g)))
    (pick (eqb (outgoing g).refusal 0)
    (tells (agreed_at l li (request_event g) (asks_for g)) (went l li (request_event g) (asks_for g) entry) 0 (outgoing g).sent)
    (refusal l (outgoing g).refusal))
    (refusal l NOT-PERMITTED)

-- "Cancel-all in ACTIVE: stop running timers in watch order, all modules IDLE, end request with the PDU, END."
unfoldable pub cancelled : Link → Answer
cancelled l = tells (cleared l) (performed (stopped LI-ACTIVE l.left) li_end (loads (cleared l)) END-REQUEST) 0 (outgoing CancelAll).sent

unfoldable pub all_cancelled : Link → Answer
all_cancelled l = allowed l (li_is l.at LI-ACTIVE) NOT-PERMITTED (cancelled l)

-- "IDLE: a contract request goes as a start request, START. Other sends are data requests. Requests in START or END: refusal 1."
unfoldable pub requested : Link → Ground → Answer
requested l g =
    pick (eqb (request_event g) cancel_all) (all_cancelled l)
    (checked l
    (pick (li_is l.at LI-IDLE) (asked l g LI-START START-REQUEST)
    (pick (li_is l.at LI-ACTIVE) (asked l g LI-ACTIVE DATA-REQUEST) (refusal l NOT-PERMITTED))))

-- "A user abort (START, ACTIVE, END; in IDLE refusal 1): stops, abort request with no PDU, no indication."
unfoldable pub user_aborted : Link → Answer
user_aborted l = closed_when l (not (li_is l.at LI-IDLE)) NOT-PERMITTED ABORT-REQUEST 0
