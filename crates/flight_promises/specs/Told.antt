-- What the ends are told on the lines of a flight, in order: what their users ask, seconds that pass, a cut, and letters that come (docs/FLIGHT.md). Over what is
-- to be known of each call.
use Rattle.std.specs.Prelude.{true, List, [], ◌∷◌, ◌++◌, ℕ, zero, suc, ◌+◌, eqb, ltb, length, take, drop}
use Rattle.text.specs.Text.{pick, word_end}
use Rattle.text.specs.Words.{found_from}
use Rattle.std.specs.Prelude.{Option, Some, None}
use Rattle.pdu_parts.specs.declared.lists.Listed.{Listed}
use Rattle.pdu_parts.specs.Lists.{no_list}
use Rattle.ground.specs.declared.call.Call as ground
use Rattle.air.specs.declared.call.Call as air
use Rattle.bench_line.specs.Lines as ground_lines
use Rattle.air_line.specs.Lines.{Asked, parsed_line}
use Rattle.script.specs.Fields.{number_after}
use Rattle.script.specs.Lines.{Parsed, unread, makes}
use Rattle.script.specs.Trace.{bumped}
use Rattle.channel.specs.declared.Letter.{Letter}
use Rattle.channel.specs.Channel.{oldest_of}
use Rattle.world.specs.World.{World}
use Rattle.world.specs.GroundTurns as to_ground
use Rattle.world.specs.AirTurns as to_air
use Rattle.delivery.specs.Hearing.{came}
use Rattle.delivery.specs.Deliveries.{without, carried_one}
use Rattle.flight_line.specs.Users.{is_user}
use Rattle.flight_line.specs.Boths.{both_hear}
use Rattle.flight_line.specs.Lines.{both_ready, rest_of, count_in, flight_words, flight_line}

-- of a call of the ground, and of one of the aircraft in a dialogue, in the world in which it is made
pub record Tell (X : Type 0) : Type 0 where
  pub for_ground : World → ground.Call → List ℕ → List X
  pub for_air : World → ℕ → air.Call → Listed → List ℕ → List X

module _ {X : Type 0} (t : Tell X) where
  -- what a user asks
  unfoldable pub ground_asks : World → Parsed ground.Call → List X
  ground_asks w (makes c s) = t.for_ground w c s
  ground_asks w unread = []

  unfoldable pub air_asks : World → Parsed Asked → List X
  air_asks w (makes c s) = t.for_air w w.taken c.call c.list s
  air_asks w unread = []

  -- settings are no call
  unfoldable pub ground_uses : World → List ℕ → List X
  ground_uses w line = pick (is_user line) (pick w.ground_end.ready (ground_asks w (ground_lines.parsed_line line)) []) []

  unfoldable pub air_uses : World → List ℕ → List X
  air_uses w line = pick (is_user line) (pick w.air.ready (air_asks w (parsed_line line)) []) []

  -- both ends, the ground first
  unfoldable pub both_told : World → ground.Call → air.Call → List X
  both_told w g a = t.for_ground w g [] ++ (let v = (to_ground.turned w g []).world in t.for_air v v.taken a no_list [])

  -- "If an end refuses, .. neither clock has moved"
  unfoldable pub elapse_told : World → ℕ → List X
  elapse_told w n =
      let b = both_hear w (ground.TheVariants.Elapse n) (air.TheVariants.Elapse n) in
      pick (eqb b.ground_end.refusal 0)
      (pick (eqb b.air.refusal 0) (both_told w (ground.TheVariants.Elapse n) (air.TheVariants.Elapse n)) [])
      []

  unfoldable pub number_told : World → Option ℕ → List X
  number_told w (Some n) = pick (both_ready w) (elapse_told w n) []
  number_told w None = []

  unfoldable pub cut_told : World → List ℕ → List X
  cut_told w tail = pick (eqb (length tail) 0) (pick (both_ready w) (both_told w ground.TheVariants.Down air.TheVariants.Down) []) []

  -- a letter, where it is heard
  unfoldable pub letter_told : World → Letter → List X
  letter_told w l =
      pick l.up (pick (to_air.hears w l) (t.for_air w l.number (to_air.call_for l.kind) no_list (came l)) [])
      (pick (to_ground.hears w l) (t.for_ground w (to_ground.call_for l.kind) (came l)) [])

  -- the oldest k letters, of which i are named already; one that stays under way has not come
  abbrev pub carried_told : ℕ → ℕ → ℕ → World → List X
  carried_told zero number i w = []
  carried_told (suc k) number i w =
      let c = carried_one true number (i + 1) w in
      pick c.stays [] (letter_told (without w) (oldest_of w.under) ++ carried_told k number (i + 1) c.world)

  unfoldable pub count_told : World → ℕ → ℕ → List X
  count_told w number k = pick (eqb k 0) [] (carried_told k number 0 w)

  unfoldable pub deliver_told : World → ℕ → List ℕ → List X
  deliver_told w number tail = pick (both_ready w) (count_told w number (count_in (length w.under) tail)) []

  -- a line, by its word: of what is thrown away nobody is told
  unfoldable pub told_as : World → ℕ → List ℕ → ℕ → List X
  told_as w number line k =
      let tail = drop (word_end line) line in
      pick (eqb k 1) (ground_uses w (rest_of line))
      (pick (eqb k 2) (air_uses w (rest_of line))
      (pick (eqb k 3) (number_told w (number_after tail))
      (pick (eqb k 4) (deliver_told w number tail) (pick (eqb k 5) [] (pick (eqb k 6) (cut_told w tail) [])))))

  unfoldable pub line_told : World → ℕ → List ℕ → List X
  line_told w number line = pick (ltb 4096 (length line)) [] (told_as w number line (found_from 0 (take (word_end line) line) flight_words))

  -- some lines, which come after n others
  abbrev pub told_on : ℕ → World → List (List ℕ) → List X
  told_on n w [] = []
  told_on n w (l ∷ ls) = line_told w (bumped n) l ++ told_on (bumped n) (flight_line w (bumped n) l).box ls
