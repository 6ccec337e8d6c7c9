use Rattle.delivery.specs.Deliveries.{without, carried_with, carried_one}
use Rattle.delivery.proofs.Short.{line-short}
use Rattle.text.proofs.Pages.{after}
use lib.ListN.{length}
use mathlib.Core.Path.{◌≡◌, refl}
use Rattle.std.proofs.Common.{rules}
use Rattle.delivery.proofs.carry.carry_one.Goals as goal

pub returns-then-c : goal.returns-then-c
unfolding carried_one carried_with without
returns-then-c c = let k = c.come-c.ensures in
    let o = c.oldest-l in
    let whole : length o.result.octets ≡ 115 = search (rules, o.type_inv) in
    rw (← c.oldest-l.ensures, ← c.pass.ensures, ← k.stays_is, c.if-c.true)
    (record { world_is = refl; stays_is = refl; text_is = after c.put_head-a.ensures (after k.text_is c.put_byte-e.ensures); short = line-short _ _ o.result whole k })

pub returns-else-c : goal.returns-else-c
unfolding carried_one carried_with without
returns-else-c c = let k = c.come-c.ensures in
    let o = c.oldest-l in
    let whole : length o.result.octets ≡ 115 = search (rules, o.type_inv) in
    rw (← c.oldest-l.ensures, ← c.pass.ensures, ← k.stays_is, c.if-c.false)
    (record { world_is = k.world_is; stays_is = refl; text_is = after c.put_head-a.ensures (after k.text_is c.put_byte-e.ensures); short = line-short _ _ o.result whole k })
