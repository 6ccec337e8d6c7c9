-- What `adsplay` prints of a log, whose last block may be cut short. "Refusals: .. block by block in this order": a block is judged wholly, play too, before it shows
-- anything, and one that is refused ends the trace with `refused N block K`, K counted from 0.
use Rattle.std.specs.Prelude.{◌≡◌, Bool, false, List, [], ◌∷◌, ◌++◌, ℕ, ◌+◌, eqb}
use Rattle.refusals.specs.Refusals.{NOT-READABLE}
use Rattle.link.specs.Tests.{pick}
use Rattle.text.specs.Letters.{ascii}
use Rattle.text.specs.Text.{decimal}
use Rattle.text.specs.Words.{refused_text}
use Rattle.text.specs.Page.{Page, page, Writes}
use Rattle.text_lines.specs.declared.input.Ended.{Ended}
use Rattle.script.specs.Trace.{end_text}
use Rattle.ground_answer.specs.declared.answer.Answer.{Answer}
use Rattle.bench.specs.Replies.{begun}
use Rattle.bench.specs.declared.reply.Setup.{Setup}
use Rattle.log_blocks.specs.Log.{Read, got, bad, read_block}
use Rattle.log_blocks.specs.Record.{Rec, form_one}
use Rattle.log_blocks.specs.Play.{Trace, play}
use Rattle.log_play.specs.Steps.{step_of}
use Rattle.log_bench.specs.Shown.{count_on, lines_on}

-- how a log ends: the lines that are shown, the box, the refusal or 0, and the number of the block that it is of
pub record Outcome : Type 0 where
  pub number : ℕ
  pub box : Setup
  pub refusal : ℕ
  pub block : ℕ

abbrev pub outcome : ℕ → Setup → ℕ → ℕ → Outcome
outcome n b e k = record { number = n; box = b; refusal = e; block = k }

-- a log without a record is "no settings first", at the block that should have held them
abbrev pub ended : ℕ → ℕ → Setup → Outcome
ended k n b = outcome n b (pick b.ready 0 NOT-READABLE) k

-- the records of block k: how many lines and which box there are after it, or where it ends the log
abbrev pub of_play : ℕ → ℕ → Setup → List Rec → Read (Trace Setup Answer) → (ℕ → Setup → Outcome) → Outcome
of_play k n b rs (got t) f = f (count_on n rs) t.state
of_play k n b rs (bad e) f = outcome n b e k

abbrev pub of_block : ℕ → ℕ → Setup → Read (List Rec) → (ℕ → Setup → Outcome) → Outcome
of_block k n b (got rs) f = of_play k n b rs (play step_of b rs) f
of_block k n b (bad e) f = outcome n b e k

-- the blocks from number k on, after n lines
abbrev pub outcome_of : ℕ → ℕ → Setup → List (List ℕ) → Outcome
outcome_of k n b [] = ended k n b
outcome_of k n b (x ∷ xs) = of_block k n b (read_block form_one k x) (λ (m : ℕ) (s : Setup). outcome_of (k + 1) m s xs)

-- the last line
unfoldable pub last_line : Outcome → List ℕ
last_line o =
    pick (eqb o.refusal 0) (end_text o.number) (refused_text o.refusal ++ (ascii " block " ++ (decimal o.block ++ (10 ∷ []))))

-- and what stands before it
abbrev pub play_lines : ℕ → Setup → List Rec → Read (Trace Setup Answer) → (ℕ → Setup → List ℕ) → List ℕ
play_lines n b rs (got t) f = lines_on n b rs ++ f (count_on n rs) t.state
play_lines n b rs (bad e) f = []

abbrev pub block_lines : ℕ → Setup → Read (List Rec) → (ℕ → Setup → List ℕ) → List ℕ
block_lines n b (got rs) f = play_lines n b rs (play step_of b rs) f
block_lines n b (bad e) f = []

abbrev pub lines_of : ℕ → ℕ → Setup → List (List ℕ) → List ℕ
lines_of k n b [] = []
lines_of k n b (x ∷ xs) = block_lines n b (read_block form_one k x) (λ (m : ℕ) (s : Setup). lines_of (k + 1) m s xs)

-- the whole text
unfoldable pub play_text : List (List ℕ) → List ℕ
play_text bs = begun.text ++ (lines_of 0 0 begun.box bs ++ last_line (outcome_of 0 0 begun.box bs))

-- what the code gives from block k, n lines and a box on: some blocks came, all there are unless a read failed
pub record Ends (k n : ℕ) (b : Setup) (o : Outcome) (failed : Bool) : Type 0 where
  pub blocks : List (List ℕ)
  pub is : failed ≡ false → o ≡ outcome_of k n b blocks

-- what `close_log` gives: the last line stands there only if the log was read to its end
pub record Closes (o : Outcome) (failed : Bool) (p : Page) (r : Ended) (out : List ℕ) : Type 0 where
  pub failed_is : r.failed ≡ failed
  pub text_is : Writes p (pick failed [] (last_line o)) (page out r.at)
