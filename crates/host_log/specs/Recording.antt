-- The recorder for a host in C: the block that it lends says by itself how far it is written. A refused call leaves the block.
use Rattle.std.specs.Prelude.{◌≡◌, Bool, true, false, List, [], ◌∷◌, ◌++◌, ℕ, ◌+◌, eqb, leb, ltb, length, get_or}
use Rattle.std.proofs.lemmas.List.Edits.{sets}
use Rattle.refusals.specs.Refusals.{OUT-OF-RANGE, NO-ROOM, NOT-READABLE}
use Rattle.link.specs.Tests.{both, pick}
use Rattle.octets.specs.Octets.{quad, pair, word_at, pair_at, zeros}
use Rattle.script.specs.Fields.{Field, garbled, holds, counts}
use Rattle.script.specs.Lines.{shapes_of}
use Rattle.bench_line.specs.Words.{ground_words}
use Rattle.log_blocks.specs.Block.{BLOCK, ROOM, BLOCKS, block_of, payload}
use Rattle.log_blocks.specs.Record.{Rec, noted, rec_octets}
use Rattle.log_blocks.specs.Tapes.{tape, fitting}
use Rattle.log_blocks.specs.declared.Tape.{Tape}
use Rattle.log_play.specs.Steps.{field_in, word_of, SETTINGS-OCTETS}

-- the number that a call gives, and the block after it
pub record Kept : Type 0 where
  pub number : ℕ
  pub block : List ℕ

abbrev pub kept : ℕ → List ℕ → Kept
kept n b = record { number = n; block = b }

pub record Keeps (d : Kept) (r : ℕ) (block : List ℕ) : Type 0 where
  pub number_is : r ≡ d.number
  pub block_is : block ≡ d.block

-- ---- an empty block: the number, zeros. 5 where the log is at its end
abbrev pub empty_block : ℕ → List ℕ
empty_block n = quad n ++ zeros 508

unfoldable pub block_opened : ℕ → List ℕ → Kept
block_opened n b = pick (ltb n BLOCKS) (pick (eqb (length b) BLOCK) (kept 0 (empty_block n)) (kept NO-ROOM b)) (kept OUT-OF-RANGE b)

-- ---- number and payload length stand in the block
abbrev pub tape_in : List ℕ → Tape
tape_in b = tape (word_at b 0) (pair_at b 4)

-- one that may be open: 20 for any other
unfoldable pub is_open : List ℕ → Bool
is_open b = fitting (tape_in b) (length b)

abbrev pub readable : Field → Bool
readable garbled = false
readable (holds s) = true
readable (counts n) = true

-- "a field its call doesn't use" (L6), settings that are not of forty octets (L8), or no call's kind are 5 for a record that is to be written
unfoldable pub fields_good : Rec → Bool
fields_good r =
    pick (eqb r.kind 0) (both (eqb r.seconds 0) (eqb (length r.octets) SETTINGS-OCTETS))
    (readable (field_in (get_or (shapes_of ground_words) (word_of r.kind) 0) r.seconds r.octets))

-- the record behind the payload, and the length with it; the check stays until the block is finished
unfoldable pub record_put : List ℕ → Rec → List ℕ
record_put b r =
    let v = rec_octets r in
    let u = pair_at b 4 in
    sets (sets b (6 + u) v) 4 (pair (u + length v))

-- "Of longer data the first 129 octets are kept"; 6 where the record does not fit and is to open the next block
unfoldable pub block_appended : List ℕ → Rec → Kept
block_appended b r =
    pick (is_open b)
    (pick (fields_good r)
    (pick (leb (pair_at b 4 + length (rec_octets (noted r))) ROOM) (kept 0 (record_put b (noted r))) (kept NO-ROOM b))
    (kept OUT-OF-RANGE b))
    (kept NOT-READABLE b)

-- zeros behind the payload, and the check
unfoldable pub block_finished : List ℕ → Kept
block_finished b = pick (is_open b) (kept 0 (block_of (word_at b 0) (payload b))) (kept NOT-READABLE b)

-- ---- a host's calls in turn: the block after the records
abbrev pub appended_all : List ℕ → List Rec → List ℕ
appended_all b [] = b
appended_all b (r ∷ rs) = appended_all (block_appended b r).block rs

-- block n, which is opened in any 512 octets, takes the records and is finished
unfoldable pub host_block : ℕ → List ℕ → List Rec → List ℕ
host_block n b rs = (block_finished (appended_all (block_opened n b).block rs)).block
