-- "At the end the states of both, under the names of their tables (`not set` for an end without settings), how much is under way" (docs/FLIGHT.md).
use Rattle.std.specs.Prelude.{List, [], ◌∷◌, ◌++◌, ℕ, ◌+◌, length, get_or}
use Rattle.text.specs.Letters.{ascii}
use Rattle.text.specs.Text.{pick, decimal}
use Rattle.text.specs.Words.{word_at}
use Rattle.link.specs.Names.{DC, EC, PC, EM, LI}
use Rattle.bench.specs.declared.reply.Setup as ground
use Rattle.air_bench.specs.declared.reply.Setup as air
use Rattle.world.specs.World.{World}

-- the states of a link's modules, LI first: each module has five words, by the numbers of its states
unfoldable pub states_of : List (List ℕ) → List ℕ → List ℕ
states_of words at =
    word_at words (0 + get_or at LI 0)
    ++ (word_at words (5 + get_or at DC 0)
    ++ (word_at words (10 + get_or at EC 0) ++ (word_at words (15 + get_or at PC 0) ++ (word_at words (20 + get_or at EM 0) ++ (10 ∷ [])))))

abbrev pub ground_names : List (List ℕ)
ground_names =
    ascii " LI-IDLE" ∷ ascii " LI-START" ∷ ascii " LI-ACTIVE" ∷ ascii " LI-END" ∷ []
    ∷ ascii " DC-IDLE" ∷ ascii " DC-PENDING" ∷ ascii " DC-ACTIVE" ∷ [] ∷ []
    ∷ ascii " EC-IDLE" ∷ ascii " EC-START-PENDING" ∷ ascii " EC-PENDING" ∷ ascii " EC-ACTIVE" ∷ ascii " EC-CANCEL"
    ∷ ascii " PC-IDLE" ∷ ascii " PC-START-PENDING" ∷ ascii " PC-PENDING" ∷ ascii " PC-ACTIVE" ∷ ascii " PC-CANCEL"
    ∷ ascii " EM-IDLE" ∷ ascii " EM-ACTIVE" ∷ ascii " EM-MODIFY" ∷ [] ∷ [] ∷ []

abbrev pub air_names : List (List ℕ)
air_names =
    ascii " LI-IDLE" ∷ ascii " LI-START" ∷ ascii " LI-ACTIVE" ∷ [] ∷ []
    ∷ ascii " DC-IDLE" ∷ ascii " DC-PENDING" ∷ ascii " DC-ACTIVE" ∷ [] ∷ []
    ∷ ascii " EC-IDLE" ∷ ascii " EC-PENDING" ∷ ascii " EC-ACTIVE" ∷ ascii " EC-ACTIVE-PENDING" ∷ []
    ∷ ascii " PC-IDLE" ∷ ascii " PC-PENDING" ∷ ascii " PC-ACTIVE" ∷ ascii " PC-ACTIVE-PENDING" ∷ []
    ∷ ascii " EM-IDLE" ∷ ascii " EM-ACTIVE" ∷ ascii " EM-MODIFY" ∷ ascii " EM-CANCEL" ∷ [] ∷ []

unfoldable pub ground_states : ground.Setup → List ℕ
ground_states s = pick s.ready (ascii "ground" ++ states_of ground_names s.link.at) (ascii "ground not set\n")

unfoldable pub air_states : air.Setup → List ℕ
air_states s = pick s.ready (ascii "air" ++ states_of air_names s.link.at) (ascii "air not set\n")

unfoldable pub states_text : World → List ℕ
states_text w = ground_states w.ground_end ++ (air_states w.air ++ (ascii "under way " ++ (decimal (length w.under) ++ (10 ∷ []))))
