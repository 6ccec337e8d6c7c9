use mathlib.Core.Path.{◌≡◌, refl, ap, ◌∙◌}
use mathlib.Core.Bool.{true}
use Prim.Native.Nat.{ℕ, ◌≤◌}
use native.Mathlib.Omega.{arith}
use native.Mathlib.Nat.{min-le_right}
use lib.ListN.{length, take, length-take}
use Rattle.text.proofs.Laws.{take-least}
use Rattle.air_line.specs.AnswerText.{answer_text}
use Rattle.std.proofs.Common.{rules}
use Rattle.air_line.proofs.answer.put_answer.Goals as goal

pub slice_bounds-octets-end : goal.slice_bounds-octets-end
slice_bounds-octets-end c = let room : length c.args.said.sent.octets ≡ 115 = search rules in
    omega (arith, c.least-m.ensures.within, room)

pub returns : goal.returns
unfolding answer_text
returns c = let room : length c.args.said.sent.octets ≡ 115 = search rules in
    let low = c.least-m in
    let octets = c.args.said.sent.octets in
    let b = c.put_brief.ensures in
    let m : take low.result octets ≡ take c.args.said.sent.n octets = ap (λ (j : ℕ). take j octets) low.ensures.is ∙ take-least c.args.said.sent.n 115 octets (room) in
    let few : length (take c.args.said.sent.n octets) ≤ 2048 = omega (arith, length-take c.args.said.sent.n octets, min-le_right c.args.said.sent.n (length octets), room) in
    record { text_is = rw (← m) b.text_is; short = rw (← m) (b.short (refl {a = true}) (rw m few)) }
