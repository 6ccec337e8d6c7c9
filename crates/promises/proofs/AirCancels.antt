-- What 02 says of a cancel on the air link, from the theorems of `air`. Assumes nothing.
use mathlib.Core.Path.{◌≡◌, sym, ap, ◌∙◌}
use mathlib.Core.List.{List, []}
use Prim.Native.Nat.{ℕ}
use lib.ListN.{get_or}
use borrow.Author.Tests.{eq-eqb}
use Rattle.pdu.specs.declared.downlink.Air.TheVariants.{Positive}
use Rattle.pdu.specs.DownlinkTable.{bare_air}
use Rattle.link.proofs.Laws.{eq-T}
use Rattle.air_tables.specs.Names.{LI-ACTIVE}
use Rattle.air_answer.specs.Fresh.{opened}
use Rattle.air_answer.specs.Sent.{sent, outgoing}
use Rattle.air_answer.specs.declared.sent.Sent.{Sent}
use Rattle.air_answer.specs.declared.answer.Answer.{Answer}
use Rattle.air_answer.proofs.Own.{own}
use Rattle.air.specs.Runs.{answered, Made}
use Rattle.air.proofs.Keeps.{Fine}
use Rattle.air.proofs.Demand3.{opened-fine, after-fine}
use Rattle.air.proofs.Cancels.{Cancelled, event-cancelled, periodic-cancelled}
use Rattle.promises.specs.Air.{Setting, flown, Acked, AirCancels}
use Rattle.promises.proofs.AirTimers.{good-setting}

flown-fine : (s : ℕ) → Setting s → (cs : List Made) → Fine (flown s cs)
flown-fine s h cs = after-fine (opened s).link cs (opened-fine s (good-setting s h))

-- the octets are those of the ack
acked : (who n : ℕ) (octets : List ℕ) (a : Answer) → (outgoing (bare_air (Positive n))).sent ≡ sent octets → Cancelled who octets a → Acked who n a
acked who n octets a e c = record { actions = c.actions; ack = c.goes ∙ sym e; goes_idle = c.ends }

pub air-cancels : AirCancels
unfolding answered
air-cancels = record {
  event = λ s h cs li on list octets r.
      let f = flown-fine s h cs in
      acked _ 3 _ _ (ap (λ (x : List Sent). get_or x 0 (sent [])) own) (event-cancelled (flown s cs) f.fine f.states (eq-T _ (eq-eqb _ LI-ACTIVE li)) octets on r);
  periodic = λ s h cs li on list octets r.
      let f = flown-fine s h cs in
      acked _ 4 _ _ (ap (λ (x : List Sent). get_or x 1 (sent [])) own) (periodic-cancelled (flown s cs) f.fine f.states (eq-T _ (eq-eqb _ LI-ACTIVE li)) octets on r);
}
