-- What the code's answers say of a record's call, as laws. Assumes nothing.
use Prim.Native.Nat.{ℕ, ◌+◌, ◌≤◌, min}
use mathlib.Core.Path.{◌≡◌, refl, sym, ap, ◌∙◌}
use mathlib.Core.Bool.{Bool, true, false}
use mathlib.Core.List.{List, []}
use lib.Dec.{eqb}
use lib.ListN.{length, get_or, take, length-take}
use lib.Seq.{sets}
use borrow.Author.Tests.{eq-eqb, eqb-true, le-ltb}
use Rattle.text.proofs.Laws.{take_min}
use Rattle.link.specs.Tests.{pick}
use Rattle.ground_answer.specs.declared.record.Link.{Link}
use Rattle.ground_answer.specs.declared.answer.Said.{Said}
use Rattle.ground.specs.Runs.{answered}
use Rattle.ground.specs.declared.call.Call.{Call}
use Rattle.script.specs.Fields.{held_in}
use Rattle.script.specs.Lines.{unread, makes, shapes_of, call_of}
use Rattle.script.specs.declared.line.Held.{Held}
use Rattle.bench_line.specs.Words.{ground_words}
use Rattle.bench_line.specs.Lines.{ground_script, parsed_in}
use Rattle.bench_line.specs.declared.line.LineCall.{LineCall}
use Rattle.bench.specs.declared.reply.Setup.{Setup}
use Rattle.host_record.specs.RecordLayout.{RECORD-OCTETS, link_of, record_octets}
use Rattle.host_record.specs.AnswerLayout.{ANSWER-OCTETS, answer_octets}
use Rattle.host_record.specs.Hosting.{Done, left, told, hosted, spelled, Serves}
use Rattle.log_blocks.specs.Record.{Rec, rec}
use Rattle.log_play.specs.Steps.{field_in, call_in, call_step, accepted, open_step, step_of, beside_of, came_with}
use Rattle.log_play.specs.Plays.{stays, step_in, stepped_by}

pub call-is : (k n : ℕ) (o : List ℕ) (shape : ℕ) (h : Held) (r : LineCall) → shape ≡ get_or (shapes_of ground_words) (k + 1) 0 → held_in h o ≡ field_in shape n o
    → parsed_in r o ≡ call_of ground_script (k + 1) (held_in h o) → call_in (rec k n o) ≡ parsed_in r o
unfolding call_in
call-is k n o shape h r e f g = sym (g ∙ ap (call_of ground_script (k + 1)) (f ∙ ap (λ (x : ℕ). field_in x n o) e))

pub unread-stays : (b : Setup) (r : Rec) → call_in r ≡ unread → stays b ≡ step_in b (length (beside_of (call_in r))) (call_step b.link (call_in r))
unfolding call_step step_in
unread-stays b r e = rw e

pub made-steps : (b : Setup) (r : Rec) (c : Call) (n m : ℕ) (o : List ℕ) → call_in r ≡ makes c (take n o) → m ≡ min n (length o)
    → step_in b m (accepted (answered b.link c (take m o))) ≡ step_in b (length (beside_of (call_in r))) (call_step b.link (call_in r))
unfolding call_step beside_of
made-steps b r c n m o e f = rw (e, f, take_min n o, length-take n o)

-- ---- the call on the octets of a link is the call by value
module _ (c : Call) (o s z : List ℕ) (r : Said) (t q : List ℕ) (h : length s ≡ RECORD-OCTETS) (g : ANSWER-OCTETS ≤ length z) where
  same_number : (hosted c o s z).number ≡ (answered (link_of s) c o).said.refusal
  unfolding hosted told
  same_number = rw (eq-eqb (length s) RECORD-OCTETS h, le-ltb (length z) ANSWER-OCTETS g) (go (eqb n 0) refl)
    where
      n : ℕ
      n = (answered (link_of s) c o).said.refusal

      full : Done
      full = record { number = 0; link = record_octets (answered (link_of s) c o).link; answer = sets z 0 (answer_octets (answered (link_of s) c o).said) }

      go : (b : Bool) → eqb n 0 ≡ b → (pick b full (left n s z)).number ≡ n
      go true e = sym (eqb-true n 0 e)
      go false e = refl

  pub served-accepts : (l : Link) → link_of s ≡ l → Serves c o s z r t q → accepted (spelled t r) ≡ accepted (answered l c o)
  unfolding accepted
  served-accepts l e w = go (eqb r.refusal 0) refl
    where
      same : r.refusal ≡ (answered l c o).said.refusal
      same = w.hosts.number_is ∙ same_number ∙ ap (λ (x : Link). (answered x c o).said.refusal) e

      go : (b : Bool) → eqb r.refusal 0 ≡ b → accepted (spelled t r) ≡ accepted (answered l c o)
      go true k = ap accepted (w.answer_is (eqb-true r.refusal 0 k) ∙ ap (λ (x : Link). answered x c o) e)
      go false k = rw (k, ← same, k)

-- ---- a box with its settings, and without
pub step-ready : (b : Setup) (r : Rec) → b.ready ≡ true → step_in b (length (beside_of (call_in r))) (call_step b.link (call_in r)) ≡ stepped_by b r
unfolding stepped_by came_with step_of
step-ready b r e =
    sym (ap (λ (x : Bool). step_in b (length (pick x (beside_of (call_in r)) [])) (pick x (call_step b.link (call_in r)) (open_step r))) e)

pub step-blank : (b : Setup) (r : Rec) → b.ready ≡ false → step_in b 0 (open_step r) ≡ stepped_by b r
unfolding stepped_by came_with step_of
step-blank b r e =
    sym (ap (λ (x : Bool). step_in b (length (pick x (beside_of (call_in r)) [])) (pick x (call_step b.link (call_in r)) (open_step r))) e)
