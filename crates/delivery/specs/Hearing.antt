-- What comes of a letter at the end that it is for (docs/FLIGHT.md): "its answer; `over`, where its dialogue is; `lost`, by `lose` and `cut`".
use Rattle.std.specs.Prelude.{◌≡◌, Bool, false, List, [], ℕ, ◌≤◌, eqb, length}
use Rattle.refusals.specs.Refusals.{SCRIPT-LINE}
use Rattle.text.specs.Letters.{ascii}
use Rattle.text.specs.Text.{pick}
use Rattle.text.specs.Page.{Page, Writes}
use Rattle.pdu_parts.specs.Lists.{no_list}
use Rattle.bench_line.specs.AnswerText as ground
use Rattle.air_line.specs.AnswerText as air
use Rattle.channel.specs.declared.Letter.{Letter}
use Rattle.channel.specs.Channel.{octets_in}
use Rattle.sending.specs.Ways.{END}
use Rattle.world.specs.World.{World, world_of}
use Rattle.world.specs.GroundTurns as to_ground
use Rattle.world.specs.AirTurns as to_air
use Rattle.delivery.specs.declared.hear.Carried as code

-- the octets that the end hears: "`end-cnf`, which has no octets (B27)"
unfoldable pub came : Letter → List ℕ
came l = pick l.up (octets_in l) (pick (eqb l.kind END) [] (octets_in l))

-- the world after it, what the line says of it, and whether it stays under way
pub record Carried : Type 0 where
  pub world : World
  pub text : List ℕ
  pub stays : Bool

-- no end is told
unfoldable pub came_to : World → List ℕ → Carried
came_to w t = record { world = w; text = t; stays = false }

-- "If after a delivery more than 16 would be under way, its answer is `refused 17`, it stays under way"
unfoldable pub ground_said : to_ground.Turn → List ℕ → Carried
ground_said t s = record { world = t.world; text = ground.answer_text t.said s; stays = eqb t.said.refusal SCRIPT-LINE }

unfoldable pub air_said : to_air.Turn → List ℕ → Carried
air_said t s = record { world = t.world; text = air.answer_text t.said s; stays = eqb t.said.refusal SCRIPT-LINE }

unfoldable pub ground_carried : World → Letter → Carried
ground_carried w l = pick (to_ground.hears w l) (ground_said (to_ground.turned w (to_ground.call_for l.kind) (came l)) (came l)) (came_to w (ascii "over"))

unfoldable pub air_carried : World → Letter → Carried
air_carried w l =
    pick (to_air.hears w l) (air_said (to_air.turned w l.number (to_air.call_for l.kind) no_list (came l)) (came l)) (came_to w (ascii "over"))

unfoldable pub comes : Bool → World → Letter → Carried
comes hear w l = pick hear (pick l.up (air_carried w l) (ground_carried w l)) (came_to w (ascii "lost"))

-- the most that an end says of a letter: eight entries, each with the octets of a PDU
abbrev pub HEARD-MOST : ℕ
HEARD-MOST = 2000

-- what writing an answer gives: the text, which is never long where no more octets came than a letter has
pub record Tells (t came : List ℕ) (p q : Page) : Type 0 where
  pub text_is : Writes p t q
  pub short : length came ≤ 115 → length t ≤ HEARD-MOST

-- what the code gives: the world, whether the letter stays, and the text on the page, which has at most so many octets
pub record Carries (most : ℕ) (x : Carried) (p : Page) (r : code.Carried) (q : Page) : Type 0 where
  pub world_is : world_of r.world ≡ x.world
  pub stays_is : r.stays ≡ x.stays
  pub text_is : Writes p x.text q
  pub short : length x.text ≤ most
