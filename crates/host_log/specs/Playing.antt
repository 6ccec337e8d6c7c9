-- Playing the log on a record that a host in C keeps as octets. A refused call leaves the record.
use Rattle.std.specs.Prelude.{Bool, true, false, not, List, ℕ, eqb, length}
use Rattle.refusals.specs.Refusals.{BAD-RECORD}
use Rattle.link.specs.Tests.{pick}
use Rattle.ground_answer.specs.Record.{good}
use Rattle.bench.specs.declared.reply.Setup.{Setup}
use Rattle.host_record.specs.RecordLayout.{RECORD-OCTETS, link_of, record_octets}
use Rattle.log_blocks.specs.Block.{all_zero}
use Rattle.log_play.specs.Plays.{play_block, played_in}
use Rattle.log_play.specs.declared.block.Played.{Played}
use Rattle.host_log.specs.Recording.{Kept, kept}

-- the box that a record spells: zeros are one without settings
unfoldable pub box_in : List ℕ → Setup
box_in s = record { ready = not (all_zero s); link = link_of s }

-- a record of zeros or a good one; 29 for any other
unfoldable pub box_good : List ℕ → Bool
box_good s = pick (eqb (length s) RECORD-OCTETS) (pick (all_zero s) true (good (link_of s))) false

-- the record of a box; one that still has no settings stays
unfoldable pub box_out : Setup → List ℕ → List ℕ
box_out b s = pick b.ready (record_octets b.link) s

unfoldable pub played_out : Played → List ℕ → Kept
played_out p s = pick (eqb p.refusal 0) (kept 0 (box_out p.setup s)) (kept p.refusal s)

-- block n on a record: the block is played wholly or not at all
unfoldable pub block_played : List ℕ → ℕ → List ℕ → Kept
block_played s n b = pick (box_good s) (played_out (played_in (box_in s) (play_block (box_in s) n b)) s) (kept BAD-RECORD s)
