use Rattle.std.proofs.Common.{◌≡◌, refl, List, ℕ}
use Rattle.ground.specs.declared.call.Call.{Call}
use Rattle.ground.specs.declared.call.Call.TheVariants.{Request, UserAbort, Elapse, StartConfirm, StartRejected, Data, EndConfirm, PeerAbort, AirAbort, Down}
use Rattle.log_play.specs.Records.{record_of}
use Rattle.log_script.proofs.line.seconds_of.Goals as goal

none : (c : Call) (s : List ℕ) → ((n : ℕ) → c ≡ Elapse n → ⊥) → 0 ≡ (record_of c s).seconds
unfolding record_of
none (Request g) s other = refl
none UserAbort s other = refl
none (Elapse n) s other = absurd (other n refl)
none StartConfirm s other = refl
none StartRejected s other = refl
none Data s other = refl
none EndConfirm s other = refl
none PeerAbort s other = refl
none AirAbort s other = refl
none Down s other = refl

pub returns-in-Elapse : goal.returns-in-Elapse
unfolding record_of
returns-in-Elapse c = λ s. rw c.in-Elapse.is

pub returns-in_default : goal.returns-in_default
returns-in_default c = λ s. none c.args.call s c.in_default.not-Elapse
