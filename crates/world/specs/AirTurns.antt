-- What a call of the aircraft does to the world, and what it hears of a letter (docs/FLIGHT.md).
use Rattle.std.specs.Prelude.{Bool, true, false, not, List, ℕ, eqb, ltb, length, take, get_or}
use Rattle.refusals.specs.Refusals.{SCRIPT-LINE}
use Rattle.text.specs.Text.{pick, both}
use Rattle.link.specs.Names.{LI, IDLE}
use Rattle.pdu_parts.specs.declared.lists.Listed.{Listed}
use Rattle.channel.specs.declared.Letter.{Letter}
use Rattle.air.specs.Runs.{answered}
use Rattle.air.specs.declared.call.Call.{Call}
use Rattle.air.specs.declared.call.Call.TheVariants.{StartInd, Data, EndInd, PeerAbort, GroundAbort}
use Rattle.air_answer.specs.Answers.{refusal}
use Rattle.air_answer.specs.declared.answer.Answer.{Answer}
use Rattle.air_answer.specs.declared.answer.Said.{Said}
use Rattle.air_bench.specs.Replies.{ready_setup}
use Rattle.sending.specs.Ways.{Way, way, sent_said, START, END, USER-ABORT}
use Rattle.world.specs.World.{World, MOST, world_of}
use Rattle.world.specs.declared.air_turn.AirTurn.{AirTurn}

-- the world after a call, and what is said
pub record Turn : Type 0 where
  pub world : World
  pub said : Said

abbrev pub turn_of : AirTurn → Turn
turn_of t = record { world = world_of t.world; said = t.said }

-- what is under way after an answer, and the number of the dialogue
unfoldable pub sent_by : Said → Way → Way
sent_by said x = sent_said false x (take said.acts.n said.acts.list) (take said.sent.n said.sent.octets)

-- "the aircraft [sends] with that of the start request it heard last and did not refuse"
unfoldable pub taken_after : ℕ → ℕ → ℕ → ℕ
taken_after r number before = pick (eqb r 0) number before

unfoldable pub goes_on : World → ℕ → Answer → Way → Turn
goes_on w number a x =
    record {
      world = record { ground_end = w.ground_end; air = ready_setup a.link; under = x.under; last = w.last; taken = taken_after a.said.refusal number w.taken };
      said = a.said;
    }

-- "refused with 17 and changes nothing .. where more than 16 would be under way after it"
unfoldable pub stays : World → Turn
stays w = record { world = w; said = (refusal w.air.link SCRIPT-LINE).said }

unfoldable pub turn_with : World → ℕ → Answer → Turn
turn_with w number a = let x = sent_by a.said (way w.under number) in pick (ltb MOST (length x.under)) (stays w) (goes_on w number a x)

unfoldable pub turned : World → ℕ → Call → Listed → List ℕ → Turn
turned w number c list s = turn_with w number (answered w.air.link c list s)

-- "A start request is always heard. Anything else is heard by an end whose LI is not IDLE and whose number it has (.. the aircraft's the one it sends with)"
unfoldable pub hears : World → Letter → Bool
hears w l = pick (eqb l.kind START) true (both (not (eqb (get_or w.air.link.at LI 0) IDLE)) (eqb l.number w.taken))

-- "each to the other end as the primitive it is"
unfoldable pub call_for : ℕ → Call
call_for k =
    pick (eqb k START) StartInd (pick (eqb k END) EndInd (pick (eqb k 4) GroundAbort (pick (eqb k USER-ABORT) PeerAbort Data)))
