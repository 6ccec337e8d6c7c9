-- The record of a call (02, L6): "Record every accepted call of one link".
use Rattle.std.specs.Prelude.{◌≡◌, List, [], ◌∷◌, ℕ, ◌<◌, eqb}
use Rattle.per.specs.Pdu.{encode}
use Rattle.pdu.specs.UplinkTable.{ground_c}
use Rattle.link.specs.Tests.{pick}
use Rattle.octets.specs.Octets.{quads, Octets}
use Rattle.ground_answer.specs.declared.record.Link.{Link}
use Rattle.ground_answer.specs.declared.answer.Answer.{Answer}
use Rattle.ground_answer.specs.Answers.{refusal}
use Rattle.ground_answer.specs.Record.{fresh}
use Rattle.ground.specs.declared.call.Call.{Call}
use Rattle.ground.specs.declared.call.Call.TheVariants.{Request, UserAbort, Elapse, StartConfirm, StartRejected, Data, EndConfirm, PeerAbort, AirAbort, Down}
use Rattle.ground.specs.Runs.{Made, reply}
use Rattle.bench.specs.Replies.{ready_setup}
use Rattle.bench.specs.declared.reply.Setup.{Setup}
use Rattle.log_blocks.specs.Record.{Rec, rec, noted}
use Rattle.log_blocks.specs.Play.{Trace, trace}

-- "call kind .. the place of its script word in document 01, from 0"; "a request's data is its written PDU"
unfoldable pub record_of : Call → List ℕ → Rec
record_of (Request g) s = rec 1 0 (encode ground_c g)
record_of UserAbort s = rec 2 0 []
record_of (Elapse n) s = rec 3 n []
record_of StartConfirm s = rec 4 0 s
record_of StartRejected s = rec 5 0 []
record_of Data s = rec 6 0 s
record_of EndConfirm s = rec 7 0 []
record_of PeerAbort s = rec 8 0 []
record_of AirAbort s = rec 9 0 s
record_of Down s = rec 10 0 []

-- "the settings are the first record"
unfoldable pub settings_record : List ℕ → Rec
settings_record setting = rec 0 0 (quads setting)

-- the records of calls on a link, the accepted ones; "Of longer data the first 129 octets are kept"
abbrev pub records_from : Link → List Made → List Rec
records_from l [] = []
records_from l (c ∷ cs) =
    pick (eqb (reply l c).said.refusal 0) (noted (record_of c.call c.octets) ∷ records_from (reply l c).link cs) (records_from l cs)

-- what the calls themselves leave: the box, and the answers of the accepted ones in order
abbrev pub answers_from : Link → List Made → Trace Setup Answer
answers_from l [] = trace (ready_setup l) []
answers_from l (c ∷ cs) =
    pick (eqb (reply l c).said.refusal 0)
    (trace (answers_from (reply l c).link cs).state (reply l c ∷ (answers_from (reply l c).link cs).answers))
    (answers_from l cs)

-- from settings on
abbrev pub records_of : List ℕ → List Made → List Rec
records_of setting cs = settings_record setting ∷ records_from (fresh setting) cs

abbrev pub answers_of : List ℕ → List Made → Trace Setup Answer
answers_of setting cs =
    trace (answers_from (fresh setting) cs).state (refusal (fresh setting) 0 ∷ (answers_from (fresh setting) cs).answers)

-- a call as it may be made: its numbers are of their width, and "absent fields and unused entries .. are no part of a value"
abbrev pub Plain : Call → Type 0
Plain (Request g) = ground_c.norm g ≡ g
Plain UserAbort = Unit {0}
Plain (Elapse n) = n < 4294967296
Plain StartConfirm = Unit {0}
Plain StartRejected = Unit {0}
Plain Data = Unit {0}
Plain EndConfirm = Unit {0}
Plain PeerAbort = Unit {0}
Plain AirAbort = Unit {0}
Plain Down = Unit {0}

pub record Callable (c : Made) : Type 0 where
  pub call : Plain c.call
  pub octets : Octets c.octets
