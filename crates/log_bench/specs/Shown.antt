-- The line of a record: its number, and the answer as `adsc` prints that of the call.
use Rattle.std.specs.Prelude.{◌≡◌, List, [], ◌∷◌, ◌++◌, ℕ, ◌<◌, take}
use Rattle.text.specs.Text.{decimal}
use Rattle.script.specs.Replies.{Reply}
use Rattle.script.specs.Trace.{bumped}
use Rattle.bench_line.specs.AnswerText.{answer_text}
use Rattle.bench.specs.declared.reply.Setup.{Setup}
use Rattle.bench.specs.declared.trace.Trace.{Trace}
use Rattle.log_blocks.specs.Log.{got, records_of}
use Rattle.log_blocks.specs.Record.{Rec, form_one}
use Rattle.log_play.specs.Plays.{stepped_by}

unfoldable pub record_reply : ℕ → Setup → Rec → Reply Setup
record_reply n b r =
    record {
      box = (stepped_by b r).setup;
      text = decimal n ++ ((32 ∷ []) ++ (answer_text (stepped_by b r).said (take (stepped_by b r).came r.octets) ++ (10 ∷ [])));
    }

-- how many lines there are after some more records, n being there before; the box then; and their text
abbrev pub count_on : ℕ → List Rec → ℕ
count_on n [] = n
count_on n (r ∷ rs) = count_on (bumped n) rs

abbrev pub box_on : Setup → List Rec → Setup
box_on b [] = b
box_on b (r ∷ rs) = box_on (stepped_by b r).setup rs

abbrev pub lines_on : ℕ → Setup → List Rec → List ℕ
lines_on n b [] = []
lines_on n b (r ∷ rs) = (record_reply (bumped n) b r).text ++ lines_on (bumped n) (stepped_by b r).setup rs

-- what `turn_page` gives: the same lines and box, and room for another line
pub record Turns (t r : Trace) : Type 0 where
  pub number_is : r.number ≡ t.number
  pub box_is : r.setup ≡ t.setup
  pub room : r.at < 65536

-- what `show_block` gives, of a payload that reads: every record has its line
pub record Shows (p : List ℕ) (n : ℕ) (b : Setup) (number : ℕ) (box : Setup) : Type 0 where
  pub is : (rs : List Rec) → records_of form_one p ≡ got rs → (number ≡ count_on n rs) × (box ≡ box_on b rs)
