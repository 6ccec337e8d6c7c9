-- What a call of the ground does to the world, and what it hears of a letter (docs/FLIGHT.md).
use Rattle.std.specs.Prelude.{Bool, true, not, List, ℕ, eqb, ltb, length, take, get_or}
use Rattle.refusals.specs.Refusals.{SCRIPT-LINE}
use Rattle.text.specs.Text.{pick, both}
use Rattle.link.specs.Names.{LI, IDLE}
use Rattle.channel.specs.declared.Letter.{Letter}
use Rattle.ground.specs.Runs.{answered}
use Rattle.ground.specs.declared.call.Call.{Call}
use Rattle.ground.specs.declared.call.Call.TheVariants.{StartConfirm, Data, EndConfirm, PeerAbort, AirAbort}
use Rattle.ground_answer.specs.Answers.{refusal}
use Rattle.ground_answer.specs.declared.answer.Answer.{Answer}
use Rattle.ground_answer.specs.declared.answer.Said.{Said}
use Rattle.bench.specs.Replies.{ready_setup}
use Rattle.sending.specs.Ways.{Way, way, sent_said, START, END, USER-ABORT}
use Rattle.world.specs.World.{World, MOST, world_of}
use Rattle.world.specs.declared.ground_turn.GroundTurn.{GroundTurn}

-- the world after a call, and what is said
pub record Turn : Type 0 where
  pub world : World
  pub said : Said

abbrev pub turn_of : GroundTurn → Turn
turn_of t = record { world = world_of t.world; said = t.said }

-- what is under way after an answer, and the number of the dialogue
unfoldable pub sent_by : Said → Way → Way
sent_by said x = sent_said true x (take said.acts.n said.acts.list) (take said.sent.n said.sent.octets)

unfoldable pub goes_on : World → Answer → Way → Turn
goes_on w a x = record { world = record { ground_end = ready_setup a.link; air = w.air; under = x.under; last = x.number; taken = w.taken }; said = a.said }

-- "refused with 17 and changes nothing .. where more than 16 would be under way after it"
unfoldable pub stays : World → Turn
stays w = record { world = w; said = (refusal w.ground_end.link SCRIPT-LINE).said }

unfoldable pub turn_with : World → Answer → Turn
turn_with w a = let x = sent_by a.said (way w.under w.last) in pick (ltb MOST (length x.under)) (stays w) (goes_on w a x)

unfoldable pub turned : World → Call → List ℕ → Turn
turned w c s = turn_with w (answered w.ground_end.link c s)

-- "Anything else is heard by an end whose LI is not IDLE and whose number it has (the ground's is the last one sent ..)"
unfoldable pub hears : World → Letter → Bool
hears w l = both (not (eqb (get_or w.ground_end.link.at LI 0) IDLE)) (eqb l.number w.last)

-- "each to the other end as the primitive it is"
unfoldable pub call_for : ℕ → Call
call_for k =
    pick (eqb k START) StartConfirm (pick (eqb k END) EndConfirm (pick (eqb k 4) AirAbort (pick (eqb k USER-ABORT) PeerAbort Data)))
