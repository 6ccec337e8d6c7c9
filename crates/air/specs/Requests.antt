-- What the user of the air link asks and answers: LI's table of 000 and 002. The order of refusals is 29, then 1, then the fields'.
use Rattle.std.specs.Prelude.{not, ℕ, eqb}
use Rattle.pdu.specs.declared.downlink.AirPdu.{AirPdu}
use Rattle.link.specs.Tests.{both, pick}
use Rattle.link.specs.Names.{DATA-REQUEST, ABORT-REQUEST}
use Rattle.link.specs.Watch.{li_is}
use Rattle.link.specs.Moves.{does_go}
use Rattle.air_tables.specs.Names.{LI-IDLE, LI-START, LI-ACTIVE}
use Rattle.air_answer.specs.Record.{played, move_at, went_parts}
use Rattle.air_answer.specs.declared.record.AirLink.{AirLink}
use Rattle.air_answer.specs.Events.{request_event, opens}
use Rattle.air_answer.specs.Sent.{outgoing}
use Rattle.air_answer.specs.Answers.{START-RESPONSE, refusal, tells, checked}
use Rattle.air_answer.specs.Aborts.{closed_when}
use Rattle.air_answer.specs.declared.answer.Answer.{Answer}
use Rattle.refusals.specs.Refusals.{NOT-PERMITTED}

-- a module's request or response, with LI ACTIVE from then on: 1 where no row has it, then what its fields are refused with, else the move
unfoldable pub asked : AirLink → AirPdu → ℕ → Answer
asked l a entry =
    pick (does_go (move_at l LI-ACTIVE (request_event a.kind)))
    (pick (eqb (outgoing a).refusal 0)
    (tells l (played l (went_parts l LI-ACTIVE (request_event a.kind) entry)) 0 (outgoing a).sent)
    (refusal l (outgoing a).refusal))
    (refusal l NOT-PERMITTED)

-- in ACTIVE a data request (000:613-617; 002:6020-6030), in START what may open the link goes as the start response (000:611-613; 002:6004-6009); in IDLE nothing (000:611; 002:6349)
unfoldable pub requested : AirLink → AirPdu → Answer
requested l a =
    checked l
    (pick (li_is l.at LI-ACTIVE) (asked l a DATA-REQUEST)
    (pick (both (li_is l.at LI-START) (opens a.kind)) (asked l a START-RESPONSE) (refusal l NOT-PERMITTED)))

-- a user abort, in START and ACTIVE: stops, abort request with no PDU, no indication (002:5788-5797, 6032-6037); in IDLE 1
unfoldable pub user_aborted : AirLink → Answer
user_aborted l = closed_when l (not (li_is l.at LI-IDLE)) NOT-PERMITTED ABORT-REQUEST 0
