-- What the lines of a script leave is the log of its records, and it plays as the calls went (02, L6). Assumes nothing.
use Prim.Native.Nat.{ℕ, ◌≤◌}
use mathlib.Core.Path.{◌≡◌, refl, sym, ap, subst, ◌∙◌}
use mathlib.Core.Bool.{Bool, true, false}
use mathlib.Core.List.{List, [], ◌∷◌, ◌++◌}
use native.Mathlib.Omega.{arith}
use lib.Dec.{T, eqb}
use lib.ListN.{length, drop}
use Rattle.text.specs.Text.{pick, word_end}
use Rattle.link.specs.Tests.{below}
use Rattle.link.specs.Names.{timers}
use Rattle.link.specs.Watch.{setting_ok}
use Rattle.link.proofs.Laws.{eq-T, pick-case}
use Rattle.ground_answer.specs.declared.fresh.Opened.{Opened}
use Rattle.ground_answer.specs.Record.{fresh}
use Rattle.ground_answer.specs.Fresh.{opened}
use Rattle.script.specs.Lines.{is_set}
use Rattle.script.specs.Replies.{Reply, play_reply, set_reply}
use Rattle.script.specs.Replies as script
use Rattle.bench_line.specs.Lines.{parsed_line}
use Rattle.bench_line.specs.Settings.{settings_in}
use Rattle.std.specs.Prelude.{Option, Some, None, IfSome, Result, Ok, Err}
use Rattle.bench.specs.declared.reply.Setup.{Setup}
use Rattle.bench.specs.Replies.{ground_bench, open_reply, listed_reply, settings_reply, line_reply}
use Rattle.log_blocks.specs.declared.NotWritten.{NotWritten}
use Rattle.log_blocks.specs.declared.NotWritten.TheVariants.{Full, Ended, Refused}
use Rattle.log_blocks.specs.declared.Tape.{Tape}
use Rattle.log_blocks.specs.Block.{BLOCKS}
use Rattle.log_blocks.specs.Log.{got, pack}
use Rattle.log_blocks.specs.Play.{play_log}
use Rattle.log_blocks.specs.Record.{Rec, noted, form_one}
use Rattle.log_blocks.specs.Tapes.{tape, appended, Recorder, recorder, note_by, note_all, log_of}
use Rattle.log_play.specs.Steps.{step_of}
use Rattle.log_play.specs.Records.{records_of, answers_of}
use Rattle.log_play.specs.Plays.{blank}
use Rattle.log_play.proofs.Recorded as played
use Rattle.log_script.specs.Heard.{call_kept, settings_kept, set_kept, line_kept, heard_line}
use Rattle.log_script.specs.Notes.{Desk, desk, ends, note_on, kept_on, line_on}
use Rattle.log_script.specs.Scripts.{noted_all, script_kept, new_desk, lines_on, calls_in}
use Rattle.log_script.proofs.Promises.{ten-settings, script-kept}
use Rattle.log_script.proofs.Calls.{calls-able}

-- ---- the log that more records come to
abbrev onward : Desk → List Rec → Recorder
onward d rs = pick d.ended d.log (note_all d.log rs)

note-onward : (d : Desk) (x : Rec) (rs : List Rec) → onward (pick d.ended d (note_on d x)) rs ≡ onward d (x ∷ rs)
unfolding note_on
note-onward d x rs = go d.ended refl (appended d.log.at d.log.block x)
  where
    by : Result Tape NotWritten → Desk
    by a = desk d.box (note_by a d.log x (λ (l : Recorder). l)) (ends a)

    go : (e : Bool) → d.ended ≡ e → (a : Result Tape NotWritten)
        → onward (pick e d (by a)) rs ≡ pick e d.log (note_by a d.log x (λ (l : Recorder). note_all l rs))
    go true e a = ap (λ (c : Bool). pick c d.log (note_all d.log rs)) e
    go false e (Ok t) = refl
    go false e (Err Full) = refl
    go false e (Err Ended) = refl
    go false e (Err Refused) = refl

kept-onward : (xs : List Rec) (d : Desk) (rs : List Rec) → onward (kept_on d xs) rs ≡ onward d (noted_all xs ++ rs)
kept-onward [] d rs = refl
kept-onward (x ∷ xs) d rs = kept-onward xs (pick d.ended d (note_on d (noted x))) rs ∙ note-onward d (noted x) (noted_all xs ++ rs)

kept-box : (xs : List Rec) (d : Desk) → (kept_on d xs).box ≡ d.box
unfolding note_on
kept-box [] d = refl
kept-box (x ∷ xs) d = kept-box xs (pick d.ended d (note_on d (noted x))) ∙ go d.ended
  where
    go : (e : Bool) → (pick e d (note_on d (noted x))).box ≡ d.box
    go true = refl
    go false = refl

lines-onward : (lines : List (List ℕ)) (d : Desk) → (lines_on d lines).log ≡ onward d (script_kept d.box lines)
unfolding line_on
lines-onward [] d = go d.ended
  where
    go : (e : Bool) → d.log ≡ pick e d.log d.log
    go true = refl
    go false = refl
lines-onward (line ∷ lines) d =
    let b = d.box in
    let h = heard_line b line in
    let k = line_kept b line in
    let n = desk (line_reply b line).box d.log d.ended in
    lines-onward lines (line_on d h)
    ∙ ap (λ (x : Setup). onward (kept_on n k) (script_kept x lines)) (kept-box k n)
    ∙ kept-onward k n (script_kept (line_reply b line).box lines)

-- ---- from a blank tape on: `log`'s recorder over the records of the script
pub script-log : (b : Setup) (block : List ℕ) (lines : List (List ℕ))
    → (lines_on (new_desk b block) lines).log ≡ note_all (recorder (tape 0 0) block []) (script_kept b lines)
script-log b block lines = lines-onward lines (new_desk b block)

-- ---- before the settings a line that is not kept leaves all as it was
abbrev Unset : Setup → List Rec → Reply Setup → Type 0
Unset b k x = k ≡ [] → x.box ≡ b

either : (b : Setup) (c : Bool) (j k : List Rec) (x y : Reply Setup) → Unset b j x → Unset b k y → Unset b (pick c j k) (pick c x y)
either b true j k x y p q = p
either b false j k x y p q = q

set-unset : (b : Setup) (line : List ℕ) → Unset b (set_kept line) (set_reply ground_bench b line)
unfolding set_kept settings_kept set_reply settings_reply listed_reply open_reply
set-unset b line = either b (is_set line) _ _ _ _ (go (settings_in (drop (word_end line) line))) (λ e. refl)
  where
    go : (x : Option (List ℕ)) → Unset b (settings_kept x) (listed_reply b x)
    go (Some s) = either b (eqb (opened s).refusal 0) _ _ _ _ (λ e. absurd (omega (arith, ap (λ (k : List Rec). length k) e))) (λ e. refl)
    go None = λ e. refl

unset : (b : Setup) (line : List ℕ) → b.ready ≡ false → Unset b (line_kept b line) (line_reply b line)
unfolding line_kept script.line_reply
unset b line new =
    subst (λ (c : Bool). Unset b (pick c (call_kept b.link (parsed_line line)) (set_kept line)) (pick c (play_reply ground_bench b (parsed_line line)) (set_reply ground_bench b line)))
    (sym new) (set-unset b line)

pub line_before : (b : Setup) (block line : List ℕ) (lines : List (List ℕ)) → b.ready ≡ false → line_kept b line ≡ []
    → lines_on (new_desk b block) (line ∷ lines) ≡ lines_on (new_desk b block) lines
unfolding line_on
line_before b block line lines new none =
    ap (λ (k : List Rec). lines_on (kept_on (new_desk (line_reply b line).box block) k) lines) none
    ∙ ap (λ (x : Setup). lines_on (new_desk x block) lines) (unset b line new none)

-- ---- a line with good settings, and what follows it: the blocks play as its calls went
good-settings : (s : List ℕ) → (opened s).refusal ≡ 0 → T (below timers (setting_ok s))
unfolding opened
good-settings s =
    pick-case (λ (x : Opened). x.refusal ≡ 0 → T (below timers (setting_ok s))) (below timers (setting_ok s)) {x = record { refusal = 0; link = fresh s }} (λ e f. eq-T _ e) (λ e f. absurd (omega (arith, f)))

module _ (b : Setup) (block line : List ℕ) (lines : List (List ℕ)) (s : List ℕ) (is : settings_in (drop (word_end line) line) ≡ Some s) where
  pub script-plays : length block ≡ 512 → b.ready ≡ false → is_set line ≡ true → (opened s).refusal ≡ 0
      → length (pack form_one (records_of s (calls_in lines))) ≤ BLOCKS
      → play_log step_of form_one blank (log_of (lines_on (new_desk b block) (line ∷ lines)).log) ≡ got (answers_of s (calls_in lines))
  script-plays long new found opens few =
      let ten : length s ≡ timers = subst (λ (x : Option (List ℕ)). IfSome x (λ list. length list ≡ timers)) is (ten-settings (drop (word_end line) line)) in
      let fine : played.Settings s = record { ten = ten; fine = good-settings s opens } in
      let start = recorder (tape 0 0) block [] in
      ap (λ (l : Recorder). play_log step_of form_one blank (log_of l))
      (script-log b block (line ∷ lines) ∙ ap (note_all start) (script-kept b line lines s is new found opens))
      ∙ played.recorder-plays s fine (calls_in lines) (calls-able lines) few block long
