-- Every call under one name, and the ground link as a side: sequences of calls on one link, accepted seconds, started and stopped timers are those of every side.
use Rattle.std.specs.Prelude.{List, [], ℕ}
use Rattle.sides.specs.Runs.{Side}
use Rattle.ground_tables.specs.Tables.{ground_tables}
use Rattle.ground_answer.specs.Record.{view}
use Rattle.ground_answer.specs.declared.record.Link.{Link}
use Rattle.ground_answer.specs.Clock.{elapsed}
use Rattle.ground_answer.specs.Aborts.{aborted}
use Rattle.ground.specs.Requests.{requested, user_aborted}
use Rattle.ground.specs.Arrivals.{confirmed, arrived}
use Rattle.ground.specs.Endings.{rejected, failed, air_aborted, peer_aborted, end_confirmed}
use Rattle.ground_answer.specs.declared.answer.Answer.{Answer}
use Rattle.ground.specs.declared.call.Call.{Call}
use Rattle.ground.specs.declared.call.Call.TheVariants.{Request, UserAbort, Elapse, StartConfirm, StartRejected, Data, EndConfirm, PeerAbort, AirAbort, Down}
use Rattle.pdu.specs.Reasons.{TIMER-EXPIRY}

unfoldable pub answered : Link → Call → List ℕ → Answer
answered l (Request g) s = requested l g
answered l UserAbort s = user_aborted l
answered l (Elapse n) s = elapsed l n
answered l StartConfirm s = confirmed l s
answered l StartRejected s = rejected l
answered l Data s = arrived l s
answered l EndConfirm s = end_confirmed l
answered l PeerAbort s = peer_aborted l
answered l AirAbort s = air_aborted l s
answered l Down s = failed l

-- a call and the octets beside it
pub record Made : Type 0 where
  pub call : Call
  pub octets : List ℕ

abbrev pub reply : Link → Made → Answer
reply l c = answered l c.call c.octets

-- the seconds that a call asks for
abbrev pub elapse_of : Call → ℕ
elapse_of (Request g) = 0
elapse_of UserAbort = 0
elapse_of (Elapse n) = n
elapse_of StartConfirm = 0
elapse_of StartRejected = 0
elapse_of Data = 0
elapse_of EndConfirm = 0
elapse_of PeerAbort = 0
elapse_of AirAbort = 0
elapse_of Down = 0

abbrev pub ground : Side
ground =
    record {
      tables = ground_tables;
      Rec = Link;
      Call = Made;
      Answer = Answer;
      view = view;
      reply = reply;
      next = λ a. a.link;
      said = λ a. a.said.acts;
      refusal = λ a. a.said.refusal;
      elapse = λ n. record { call = Elapse n; octets = [] };
      asks = λ c. elapse_of c.call;
      abort = λ l. aborted l TIMER-EXPIRY;
    }
