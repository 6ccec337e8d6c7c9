-- The recorder: a tape by value says how far a lent block is written.
use Rattle.std.specs.Prelude.{Bool, Option, Some, None, Result, Ok, Err, ◌≡◌, List, [], ◌∷◌, ◌++◌, ℕ, ◌+◌, eqb, leb, ltb, length, take, drop}
use Rattle.std.proofs.lemmas.List.Edits.{sets}
use Rattle.link.specs.Tests.{both, pick}
use Rattle.log_blocks.specs.Block.{BLOCK, ROOM, BLOCKS, block_of}
use Rattle.log_blocks.specs.Record.{Rec, rec_octets}
use Rattle.log_blocks.specs.declared.Tape.{Tape}
use Rattle.log_blocks.specs.declared.NotWritten.{NotWritten}
use Rattle.log_blocks.specs.declared.NotWritten.TheVariants.{Full, Ended, Refused}
use Rattle.log_blocks.specs.declared.Unfit.{Unfit}

abbrev pub tape : ℕ → ℕ → Tape
tape n u = record { number = n; used = u }

-- the payload that is written
unfoldable pub written : Tape → List ℕ → List ℕ
written t b = take t.used (drop 6 b)

-- so many octets are a block of this tape: 512, with a number and a payload that a block may have
unfoldable pub fitting : Tape → ℕ → Bool
fitting t size = both (eqb size BLOCK) (both (leb t.used ROOM) (ltb t.number BLOCKS))

-- a block may follow this one
abbrev pub follows : Tape → Bool
follows t = ltb (t.number + 1) BLOCKS

-- "A record that doesn't fit opens the next block"; where none may follow, the log has ended and stays
unfoldable pub appended : Tape → List ℕ → Rec → Result Tape NotWritten
appended t b r =
    let u = t.used + length (rec_octets r) in
    pick (fitting t (length b)) (pick (leb u ROOM) (Ok (tape t.number u)) (Err (pick (follows t) Full Ended))) (Err Refused)

-- a record that is not written leaves the block as it was
unfoldable pub appended_to : Tape → List ℕ → Rec → List ℕ
appended_to t b r =
    pick (fitting t (length b)) (pick (leb (t.used + length (rec_octets r)) ROOM) (sets b (6 + t.used) (rec_octets r)) b) b

pub record Appends (t : Tape) (b : List ℕ) (r : Rec) (answer : Result Tape NotWritten) (after : List ℕ) : Type 0 where
  pub answer_is : answer ≡ appended t b r
  pub block_is : after ≡ appended_to t b r

-- a block that is finished, and the tape of the next one
unfoldable pub finished : Tape → ℕ → Result (Option Tape) Unfit
finished t size = pick (fitting t size) (Ok (pick (follows t) (Some (tape (t.number + 1) 0)) None)) (Err (record {}))

unfoldable pub finished_to : Tape → List ℕ → List ℕ
finished_to t b = pick (fitting t (length b)) (block_of t.number (written t b)) b

pub record Finishes (t : Tape) (b : List ℕ) (answer : Result (Option Tape) Unfit) (after : List ℕ) : Type 0 where
  pub answer_is : answer ≡ finished t (length b)
  pub block_is : after ≡ finished_to t b

-- ---- a whole log: the tape and its block between two calls, and the blocks that are finished
pub record Recorder : Type 0 where
  pub at : Tape
  pub block : List ℕ
  pub done : List (List ℕ)

abbrev pub recorder : Tape → List ℕ → List (List ℕ) → Recorder
recorder t b l = record { at = t; block = b; done = l }

-- a full block is finished, and the record goes into the next one
abbrev pub turned : Recorder → Rec → Recorder
turned d r =
    let b = finished_to d.at d.block in
    recorder (tape (d.at.number + 1) (length (rec_octets r))) (appended_to (tape (d.at.number + 1) 0) b r) (d.done ++ (b ∷ []))

-- on from what `append` answers; a log that has ended takes no record more, so that what it has is played as it was called
abbrev pub note_by : Result Tape NotWritten → Recorder → Rec → (Recorder → Recorder) → Recorder
note_by (Ok t) d r f = f (recorder t (appended_to d.at d.block r) d.done)
note_by (Err Full) d r f = f (turned d r)
note_by (Err Ended) d r f = d
note_by (Err Refused) d r f = d

abbrev pub note_all : Recorder → List Rec → Recorder
note_all d [] = d
note_all d (r ∷ rs) = note_by (appended d.at d.block r) d r (λ (e : Recorder). note_all e rs)

-- no block is finished before it has a record
unfoldable pub log_of : Recorder → List (List ℕ)
log_of d = pick (eqb d.at.used 0) d.done (d.done ++ (finished_to d.at d.block ∷ []))
