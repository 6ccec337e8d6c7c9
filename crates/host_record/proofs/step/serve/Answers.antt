use mathlib.Core.Path.{ap, ◌∙◌}
use Rattle.ground_answer.specs.declared.record.Link.{Link}
use Rattle.ground_answer.specs.declared.answer.Answer.{Answer}
use Rattle.ground.specs.Runs.{answered}
use Rattle.host_record.specs.laws.Back.{record-back}
use Rattle.host_record.proofs.Puts.{saved-record}
use Rattle.host_record.proofs.Ways.{same-settings, no_record, refused-so, no_room, accepted}
use Rattle.std.proofs.Common.{rules}
use Rattle.host_record.proofs.step.serve.Goals as goal

pub returns-then-link-ne-RECORD : goal.returns-then-link-ne-RECORD
returns-then-link-ne-RECORD c = no_record _ _ _ _ c.if-link-ne-RECORD.true _ (ap (λ (x : Answer). x.said.refusal) c.refuse.ensures)

pub returns-then-a-ne0 : goal.returns-then-a-ne0
returns-then-a-ne0 c = let k = c.args in
    let a = c.answer-a in
    refused-so _ _ _ _ c.if-link-ne-RECORD.false _ (a.ensures ∙ ap (λ (l : Link). answered l k.call k.octets.now) c.load-2.ensures) c.if-a-ne0.true

pub returns-then-out-lt-ANSWER : goal.returns-then-out-lt-ANSWER
returns-then-out-lt-ANSWER c = let k = c.args in
    let a = c.answer-a in
    no_room _ _ _ _ c.if-link-ne-RECORD.false _ (a.ensures ∙ ap (λ (l : Link). answered l k.call k.octets.now) c.load-2.ensures) c.if-a-ne0.false c.if-out-lt-ANSWER.true _ (ap (λ (x : Answer). x.said.refusal) c.refuse-then-out-lt-ANSWER.ensures)

pub save_rest-requires : goal.save_rest-requires
save_rest-requires c = let k = c.args in
    let a = c.answer-a in
    same-settings k.call k.octets.now k.link.now a.result (a.ensures ∙ ap (λ (l : Link). answered l k.call k.octets.now) c.load-2.ensures)

pub returns : goal.returns
returns c = let k = c.args in
    let a = c.answer-a in
    let h = c.if-link-ne-RECORD.false in
    let back = record-back a.result.link (search rules) (search rules) (search rules) in
    accepted _ _ _ _ h _ (a.ensures ∙ ap (λ (l : Link). answered l k.call k.octets.now) c.load-2.ensures) c.if-a-ne0.false c.if-out-lt-ANSWER.false back _ _ (c.save_rest.ensures ∙ saved-record _ _ h) c.save_answer.ensures
