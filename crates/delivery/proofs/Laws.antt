-- The ways of a letter, and of letters one after the other. Assumes nothing.
use mathlib.Core.Path.{◌≡◌, refl, sym, ap, ◌∙◌}
use mathlib.Core.Bool.{Bool, true, false}
use mathlib.Core.List.{append-nil}
use Prim.Native.Nat.{ℕ, suc, ◌+◌, ◌-◌, ◌*◌, ◌≤◌, ◌<◌}
use native.Mathlib.Omega.{arith}
use lib.ListN.{length-append}
use Rattle.text.specs.Letters.{ascii}
use Rattle.text.specs.Text.{pick}
use Rattle.text.specs.Page.{Page}
use Rattle.text.proofs.Pages.{after}
use Rattle.pdu_parts.specs.Lists.{no_list}
use Rattle.channel.specs.declared.Letter.{Letter}
use Rattle.world.specs.World.{World, world_of}
use Rattle.world.specs.GroundTurns as to_ground
use Rattle.world.specs.AirTurns as to_air
use Rattle.delivery.specs.Hearing.{came, Carries, came_to, ground_said, ground_carried, air_said, air_carried, comes}
use Rattle.delivery.specs.Deliveries.{carried_one, carried, LETTER-MOST, Flies}
use Rattle.delivery.specs.declared.hear.Carried as code

module _ (w : World) (l : Letter) where
  pub ground-over : to_ground.hears w l ≡ false → ground_carried w l ≡ came_to w (ascii "over")
  unfolding ground_carried
  ground-over h = rw h

  pub ground-told : to_ground.hears w l ≡ true → ground_carried w l ≡ ground_said (to_ground.turned w (to_ground.call_for l.kind) (came l)) (came l)
  unfolding ground_carried
  ground-told h = rw h

  pub air-over : to_air.hears w l ≡ false → air_carried w l ≡ came_to w (ascii "over")
  unfolding air_carried
  air-over h = rw h

  pub air-told : to_air.hears w l ≡ true → air_carried w l ≡ air_said (to_air.turned w l.number (to_air.call_for l.kind) no_list (came l)) (came l)
  unfolding air_carried
  air-told h = rw h

  pub comes-air : l.up ≡ true → comes true w l ≡ air_carried w l
  unfolding comes
  comes-air h = ap (λ (b : Bool). pick b (air_carried w l) (ground_carried w l)) h

  pub comes-ground : l.up ≡ false → comes true w l ≡ ground_carried w l
  unfolding comes
  comes-ground h = ap (λ (b : Bool). pick b (air_carried w l) (ground_carried w l)) h

module _ (hear : Bool) (number k i : ℕ) (w : World) where
  -- a letter, and those after it
  pub carry-goes : {p m q : Page} {v : World} (r : code.Carried) → i < k → r.stays ≡ false → Carries LETTER-MOST (carried_one hear number (i + 1) w) p r m
      → Flies ((k - (i + 1)) * LETTER-MOST) (carried hear (k - (i + 1)) number (i + 1) (world_of r.world)) m v q → Flies ((k - i) * LETTER-MOST) (carried hear (k - i) number i w) p v q
  carry-goes r h s c f =
      let e : k - i ≡ suc (k - (i + 1)) = omega arith in
      let z : (carried_one hear number (i + 1) w).stays ≡ false = sym c.stays_is ∙ s in
      let g = rw c.world_is at f in
      let one = (carried_one hear number (i + 1) w).text in
      let more = (carried hear (k - (i + 1)) number (i + 1) (carried_one hear number (i + 1) w).world).text in
      rw (e, z) (record { world_is = g.world_is; text_is = after c.text_is g.text_is; short = omega (arith, length-append one more, c.short, g.short) })

  -- a letter that stays is the last
  pub carry-stays : {p q : Page} (r : code.Carried) → i < k → r.stays ≡ true → Carries LETTER-MOST (carried_one hear number (i + 1) w) p r q
      → Flies ((k - i) * LETTER-MOST) (carried hear (k - i) number i w) p (world_of r.world) q
  carry-stays r h s c =
      let e : k - i ≡ suc (k - (i + 1)) = omega arith in
      let z : (carried_one hear number (i + 1) w).stays ≡ true = sym c.stays_is ∙ s in
      rw (e, z, append-nil (carried_one hear number (i + 1) w).text) (record { world_is = c.world_is; text_is = c.text_is; short = omega (arith, c.short) })

  pub carry-ends : {p : Page} → k ≤ i → Flies ((k - i) * LETTER-MOST) (carried hear (k - i) number i w) p w p
  carry-ends h = let e : k - i ≡ 0 = omega arith in rw e (record { world_is = refl; text_is = record { is = refl }; short = omega arith })
