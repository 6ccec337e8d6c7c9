-- Demand 1 of the air link, from the theorems of `air`. Assumes nothing.
use mathlib.Core.Path.{◌≡◌, refl, ap}
use mathlib.Core.List.{List}
use Prim.Native.Nat.{ℕ, ◌≤◌}
use native.Mathlib.Omega.{arith}
use lib.Dec.{T}
use lib.ListN.{length, get_or}
use borrow.Author.Tests.{eq-eqb, ne_eqb}
use Rattle.per.specs.Pdu as per
use Rattle.per.specs.Pdu.{read_pdu, got, refused}
use Rattle.pdu_parts.specs.declared.lists.Listed.{Listed}
use Rattle.pdu.specs.declared.uplink.Ground.{Ground}
use Rattle.pdu.specs.declared.uplink.Ground.TheVariants.{CancelAll, CancelContract, CancelEmergencyAck, DemandContract, EventContract, ModifyEmergency, PeriodicContract, Abort}
use Rattle.pdu.specs.UplinkTable.{ground_c}
use Rattle.link.specs.Names.{LI}
use Rattle.link.proofs.Laws.{T-eq}
use Rattle.air_tables.specs.Names.{LI-IDLE, LI-START, LI-ACTIVE}
use Rattle.air_answer.specs.Record.{good}
use Rattle.air_answer.specs.Aborts.{aborted}
use Rattle.air_answer.specs.declared.record.AirLink.{AirLink}
use Rattle.air_answer.specs.declared.answer.Answer.{Answer}
use Rattle.air.specs.Arrivals.{taken, indicated, arrived, all_cancelled, end_indicated}
use Rattle.air.specs.Runs.{answered}
use Rattle.air.specs.declared.call.Call.TheVariants.{StartInd, Data, EndInd}
use Rattle.air.proofs.Promises.{refused-still}
use Rattle.promises.specs.Air.{AirRefusals}
use Rattle.promises.proofs.AirNumbers.{listed-air}

unread : (l : AirLink) (k : ℕ) (s : List ℕ) (n : ℕ) → read_pdu ground_c s ≡ refused n → taken l k (read_pdu ground_c s) ≡ aborted l 2
unfolding taken
unread l k s n e = rw e

unread_start : (l : AirLink) (list : Listed) (s : List ℕ) (n : ℕ) → T (good l) → get_or l.at LI 0 ≡ LI-IDLE → read_pdu ground_c s ≡ refused n → answered l StartInd list s ≡ aborted l 2
unfolding answered indicated
unread_start l list s n g a e = rw (T-eq (good l) g, eq-eqb (get_or l.at LI 0) LI-IDLE a) (unread l LI-START s n e)

unread_data : (l : AirLink) (list : Listed) (s : List ℕ) (n : ℕ) → T (good l) → get_or l.at LI 0 ≡ LI-ACTIVE → read_pdu ground_c s ≡ refused n → answered l Data list s ≡ aborted l 2
unfolding answered arrived
unread_data l list s n g a e = rw (T-eq (good l) g, eq-eqb (get_or l.at LI 0) LI-ACTIVE a) (unread l LI-ACTIVE s n e)

other : (l : AirLink) (r : per.Answer Ground) → (r ≡ got CancelAll → ⊥) → all_cancelled l r ≡ aborted l 2
unfolding all_cancelled
other l (got CancelAll) h = absurd (h refl)
other l (got (CancelContract n)) h = refl
other l (got CancelEmergencyAck) h = refl
other l (got (DemandContract v)) h = refl
other l (got (EventContract v)) h = refl
other l (got (ModifyEmergency i)) h = refl
other l (got (PeriodicContract a)) h = refl
other l (got (Abort n)) h = refl
other l (refused n) h = refl

no_cancel_all : (l : AirLink) (list : Listed) (s : List ℕ) → T (good l) → get_or l.at LI 0 ≡ LI-ACTIVE → 1 ≤ length s → (read_pdu ground_c s ≡ got CancelAll → ⊥)
    → answered l EndInd list s ≡ aborted l 2
unfolding answered end_indicated
no_cancel_all l list s g a some h =
    rw (T-eq (good l) g, eq-eqb (get_or l.at LI 0) LI-ACTIVE a, ne_eqb (length s) 0 (λ e. omega (arith, e, some))) (other l (read_pdu ground_c s) h)

pub air-refusals : AirRefusals
air-refusals = record {
  calls = record {
    listed = λ l c. listed-air l c.call c.list c.octets;
    link_stays = λ l c e. ap (λ (a : Answer). a.link) (refused-still l c e);
    no_actions = λ l c e. ap (λ (a : Answer). a.said.acts) (refused-still l c e);
  };
  no_octets = λ l c e. ap (λ (a : Answer). a.said.sent) (refused-still l c e);
  unread_start = unread_start;
  unread_data = unread_data;
  no_cancel_all = no_cancel_all;
}
