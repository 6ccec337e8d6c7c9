-- What is promised of the calls on lent octets. Assumes nothing.
use Prim.Native.Nat.{ℕ}
use mathlib.Core.Path.{◌≡◌, refl, sym, ap, ◌∙◌}
use mathlib.Core.Bool.{Bool, true, false}
use mathlib.Core.List.{List, [], ◌∷◌}
use lib.Dec.{eqb, ltb}
use lib.ListN.{length, replicate}
use lib.Seq.{sets}
use borrow.Author.Tests.{eq-eqb}
use Rattle.link.specs.Tests.{pick}
use Rattle.link.proofs.Laws.{no_true}
use Rattle.ground_answer.specs.declared.record.Link.{Link}
use Rattle.sides.specs.Runs.{after}
use Rattle.ground.proofs.Keeps.{Fine}
use Rattle.ground_answer.specs.declared.answer.Answer.{Answer}
use Rattle.ground.specs.declared.call.Call.{Call}
use Rattle.ground.specs.Runs.{answered, Made, reply, ground}
use Rattle.ground.proofs.Promises.{refused-still}
use Rattle.ground.proofs.Demand3.{after-fine}
use Rattle.host_record.specs.RecordLayout.{RECORD-OCTETS, link_of, record_octets}
use Rattle.host_record.specs.AnswerLayout.{answer_octets, ANSWER-OCTETS}
use Rattle.host_record.specs.laws.Back.{record-back}
use Rattle.host_record.proofs.Puts.{length-record}
use Rattle.host_record.specs.Hosting.{Done, left, told, hosted, kept, Hosts, Opening, Makes}

-- "one possible result and one possible content of each lent buffer"
pub hosts-one : (d : Done) (r q : ℕ) (k l a b : List ℕ) → Hosts d r k a → Hosts d q l b → (r ≡ q) × (k ≡ l) × (a ≡ b)
hosts-one d r q k l a b x y = (x.number_is ∙ sym y.number_is, x.link_is ∙ sym y.link_is, x.answer_is ∙ sym y.answer_is)

pub makes_one : (d : Opening) (r q : ℕ) (k l : List ℕ) → Makes d r k → Makes d q l → (r ≡ q) × (k ≡ l)
makes_one d r q k l x y = (x.number_is ∙ sym y.number_is, x.link_is ∙ sym y.link_is)

-- "a refused call leaves the link and every lent buffer as before it"
told-still : (s o : List ℕ) (a : Answer) → eqb (told s o a).number 0 ≡ false → told s o a ≡ left (told s o a).number s o
unfolding told
told-still s o a = go (eqb a.said.refusal 0) refl
  where
    full : Done
    full = record { number = 0; link = record_octets a.link; answer = sets o 0 (answer_octets a.said) }

    room : (b : Bool) → eqb (pick b (left 6 s o) full).number 0 ≡ false → pick b (left 6 s o) full ≡ left (pick b (left 6 s o) full).number s o
    room true h = refl
    room false h = absurd (no_true h)

    go : (b : Bool) → eqb a.said.refusal 0 ≡ b
        → eqb (pick b (pick (ltb (length o) ANSWER-OCTETS) (left 6 s o) full) (left a.said.refusal s o)).number 0 ≡ false
        → pick b (pick (ltb (length o) ANSWER-OCTETS) (left 6 s o) full) (left a.said.refusal s o)
        ≡ left (pick b (pick (ltb (length o) ANSWER-OCTETS) (left 6 s o) full) (left a.said.refusal s o)).number s o
    go true e h = room (ltb (length o) ANSWER-OCTETS) h
    go false e h = refl

pub host-still : (call : Call) (octets s o : List ℕ) → eqb (hosted call octets s o).number 0 ≡ false → hosted call octets s o ≡ left (hosted call octets s o).number s o
unfolding hosted
host-still call octets s o = go (eqb (length s) RECORD-OCTETS)
  where
    a : Done
    a = told s o (answered (link_of s) call octets)

    go : (b : Bool) → eqb (pick b a (left 29 s o)).number 0 ≡ false → pick b a (left 29 s o) ≡ left (pick b a (left 29 s o)).number s o
    go true h = told-still s o (answered (link_of s) call octets) h
    go false h = refl

-- ---- "calls on the record's octets are the calls by value": over every sequence of calls, so every promise of the link holds of the host's record
record-long : (l : Link) → Fine l → length (record_octets l) ≡ RECORD-OCTETS
record-long l s = length-record l s.lefts s.settings

told-link : (l : Link) (c : Made) → (told (record_octets l) (replicate ANSWER-OCTETS 0) (reply l c)).link ≡ record_octets (reply l c).link
unfolding told
told-link l c = go (eqb (reply l c).said.refusal 0) refl
  where
    s : List ℕ
    s = record_octets l

    full : Done
    full = record { number = 0; link = record_octets (reply l c).link; answer = sets (replicate ANSWER-OCTETS 0) 0 (answer_octets (reply l c).said) }

    go : (b : Bool) → eqb (reply l c).said.refusal 0 ≡ b → (pick b full (left (reply l c).said.refusal s (replicate ANSWER-OCTETS 0))).link ≡ record_octets (reply l c).link
    go true e = refl
    go false e = ap (λ (a : Answer). record_octets a.link) (sym (refused-still l c e))

host-step : (l : Link) (c : Made) → Fine l → (hosted c.call c.octets (record_octets l) (replicate ANSWER-OCTETS 0)).link ≡ record_octets (reply l c).link
unfolding hosted
host-step l c s = rw (eq-eqb (length (record_octets l)) RECORD-OCTETS (record-long l s), record-back l s.settings s.lefts s.states) (told-link l c)

pub host-run : (l : Link) (cs : List Made) → Fine l → kept (record_octets l) cs ≡ record_octets (after ground l cs)
unfolding kept after
host-run l [] s = refl
host-run l (c ∷ cs) s =
    ap (λ (x : List ℕ). kept x cs) (host-step l c s) ∙ host-run (reply l c).link cs (after-fine l (c ∷ []) s)
