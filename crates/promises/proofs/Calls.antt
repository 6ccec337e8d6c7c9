-- Demand 1, from the theorems of `ground` and `host_record`. Assumes nothing.
use mathlib.Core.Path.{◌≡◌, ap}
use mathlib.Core.List.{List}
use Prim.Native.Nat.{ℕ}
use lib.Dec.{T}
use lib.ListN.{get_or}
use borrow.Author.Tests.{eq-eqb}
use Rattle.per.specs.Pdu.{read_pdu, refused}
use Rattle.pdu.specs.DownlinkTable.{air_c}
use Rattle.link.specs.Names.{LI}
use Rattle.link.proofs.Laws.{T-eq}
use Rattle.ground_tables.specs.Names.{LI-START, LI-ACTIVE}
use Rattle.ground_answer.specs.Record.{good}
use Rattle.ground_answer.specs.Aborts.{aborted}
use Rattle.ground_answer.specs.declared.record.Link.{Link}
use Rattle.ground_answer.specs.declared.answer.Answer.{Answer}
use Rattle.ground.specs.Arrivals.{taken, confirmed, arrived}
use Rattle.ground.specs.Runs.{answered}
use Rattle.ground.specs.declared.call.Call.TheVariants.{StartConfirm, Data}
use Rattle.ground.proofs.Promises.{refused-still}
use Rattle.host_record.specs.Hosting.{Done}
use Rattle.host_record.proofs.Promises.{host-still}
use Rattle.promises.specs.Calls.{Refusals}
use Rattle.promises.proofs.Numbers.{listed}

unread : (l : Link) (s : List ℕ) (n : ℕ) → read_pdu air_c s ≡ refused n → taken l (read_pdu air_c s) ≡ aborted l 2
unfolding taken
unread l s n e = rw e

unread_answer : (l : Link) (s : List ℕ) (n : ℕ) → T (good l) → get_or l.at LI 0 ≡ LI-START → read_pdu air_c s ≡ refused n → answered l StartConfirm s ≡ aborted l 2
unfolding answered confirmed
unread_answer l s n g a e = rw (T-eq (good l) g, eq-eqb (get_or l.at LI 0) LI-START a) (unread l s n e)

unread_data : (l : Link) (s : List ℕ) (n : ℕ) → T (good l) → get_or l.at LI 0 ≡ LI-ACTIVE → read_pdu air_c s ≡ refused n → answered l Data s ≡ aborted l 2
unfolding answered arrived
unread_data l s n g a e = rw (T-eq (good l) g, eq-eqb (get_or l.at LI 0) LI-ACTIVE a) (unread l s n e)

pub refusals : Refusals
refusals = record {
  calls = record {
    listed = λ l c. listed l c.call c.octets;
    link_stays = λ l c e. ap (λ (a : Answer). a.link) (refused-still l c e);
    no_actions = λ l c e. ap (λ (a : Answer). a.said.acts) (refused-still l c e);
  };
  no_octets = λ l c e. ap (λ (a : Answer). a.said.sent) (refused-still l c e);
  record_stays = λ call octets s o e. ap (λ (d : Done). d.link) (host-still call octets s o e);
  answer_stays = λ call octets s o e. ap (λ (d : Done). d.answer) (host-still call octets s o e);
  unread_answer = unread_answer;
  unread_data = unread_data;
}
