-- Every call under one name, and the air link as a side: sequences of calls on one link, accepted seconds, started and stopped timers are those of every side.
use Rattle.std.specs.Prelude.{List, [], ℕ}
use Rattle.pdu_parts.specs.declared.lists.Listed.{Listed}
use Rattle.pdu_parts.specs.Lists.{no_list}
use Rattle.sides.specs.Runs.{Side}
use Rattle.air_tables.specs.Tables.{air_tables}
use Rattle.air_answer.specs.Record.{view}
use Rattle.air_answer.specs.declared.record.AirLink.{AirLink}
use Rattle.air_answer.specs.Clock.{elapsed}
use Rattle.air_answer.specs.Aborts.{aborted}
use Rattle.air.specs.Requests.{requested, user_aborted}
use Rattle.air.specs.Arrivals.{indicated, arrived, end_indicated}
use Rattle.air.specs.Endings.{failed, ground_aborted, peer_aborted}
use Rattle.air_answer.specs.declared.answer.Answer.{Answer}
use Rattle.air.specs.declared.call.Call.{Call}
use Rattle.air.specs.declared.call.Call.TheVariants.{Request, UserAbort, Elapse, StartInd, Data, EndInd, PeerAbort, GroundAbort, Down}
use Rattle.pdu.specs.Reasons.{TIMER-EXPIRY}

-- the list is a request's, the octets are those that came
unfoldable pub answered : AirLink → Call → Listed → List ℕ → Answer
answered l (Request kind) list s = requested l (record { kind = kind; list = list })
answered l UserAbort list s = user_aborted l
answered l (Elapse n) list s = elapsed l n
answered l StartInd list s = indicated l s
answered l Data list s = arrived l s
answered l EndInd list s = end_indicated l s
answered l PeerAbort list s = peer_aborted l
answered l GroundAbort list s = ground_aborted l s
answered l Down list s = failed l

-- a call, and the list and the octets beside it
pub record Made : Type 0 where
  pub call : Call
  pub list : Listed
  pub octets : List ℕ

abbrev pub reply : AirLink → Made → Answer
reply l c = answered l c.call c.list c.octets

-- the seconds that a call asks for
abbrev pub elapse_of : Call → ℕ
elapse_of (Request kind) = 0
elapse_of UserAbort = 0
elapse_of (Elapse n) = n
elapse_of StartInd = 0
elapse_of Data = 0
elapse_of EndInd = 0
elapse_of PeerAbort = 0
elapse_of GroundAbort = 0
elapse_of Down = 0

abbrev pub air_side : Side
air_side =
    record {
      tables = air_tables;
      Rec = AirLink;
      Call = Made;
      Answer = Answer;
      view = view;
      reply = reply;
      next = λ a. a.link;
      said = λ a. a.said.acts;
      refusal = λ a. a.said.refusal;
      elapse = λ n. record { call = Elapse n; list = no_list; octets = [] };
      asks = λ c. elapse_of c.call;
      abort = λ l. aborted l TIMER-EXPIRY;
    }
