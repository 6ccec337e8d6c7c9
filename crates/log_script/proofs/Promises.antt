-- What is kept of a script (02, L6): "Record every accepted call of one link". Assumes nothing.
use Prim.Native.Nat.{ℕ, zero, suc, ◌+◌, ◌≤◌}
use mathlib.Core.Path.{◌≡◌, refl, sym, ap, subst, ◌∙◌}
use mathlib.Core.Bool.{Bool, true, false}
use mathlib.Core.List.{List, [], ◌∷◌, ◌++◌}
use native.Mathlib.Omega.{arith}
use borrow.Author.Tests.{eq-eqb}
use lib.Dec.{eqb}
use lib.ListN.{length, take, drop, set, length-set, length-replicate}
use lib.Seq.{take_all}
use Rattle.text.specs.Letters.{ascii}
use Rattle.text.specs.Text.{pick, same_text, word_end}
use Rattle.text.specs.Words.{refused_text}
use Rattle.text.specs.Numbers.{step_of, with_step}
use Rattle.link.specs.Tests as link
use Rattle.link.specs.Names.{timers}
use Rattle.link.proofs.Laws.{pick-case}
use Rattle.octets.specs.Octets.{quads}
use Rattle.octets.specs.laws.Numbers.{length-quads}
use Rattle.ground_answer.specs.declared.record.Link.{Link}
use Rattle.ground_answer.specs.declared.answer.Answer.{Answer}
use Rattle.ground_answer.specs.Record.{fresh}
use Rattle.ground_answer.specs.Fresh.{opened}
use Rattle.ground.specs.declared.call.Call.{Call}
use Rattle.ground.specs.Runs.{answered, Made}
use Rattle.ground.proofs.Promises.{refused-still}
use Rattle.script.specs.Entries.{brief_text}
use Rattle.script.specs.Lines.{Parsed, unread, makes, is_set}
use Rattle.script.specs.Replies.{Reply, refused_reply, play_reply, set_reply}
use Rattle.script.specs.Replies as script
use Rattle.bench_line.specs.AnswerText.{answer_text}
use Rattle.bench_line.specs.Lines.{parsed_line}
use Rattle.bench_line.specs.Settings.{settings_from, settings_in}
use Rattle.std.specs.Prelude.{Option, Some, None, IfSome}
use Rattle.text.specs.declared.digits.Stepped.{Stepped}
use Rattle.bench.specs.declared.reply.Setup.{Setup}
use Rattle.bench.specs.Replies.{ground_bench, ready_setup, answer_reply, open_reply, listed_reply, settings_reply, line_reply}
use Rattle.log_blocks.specs.Record.{Rec, noted}
use Rattle.log_play.specs.Records.{record_of, settings_record, records_from, records_of}
use Rattle.log_script.specs.Heard.{call_kept, settings_kept, set_kept, line_kept}
use Rattle.log_script.specs.Scripts.{noted_all, script_kept, onto, calls_in}
use Rattle.log_script.proofs.Ways.{opened-fresh}

-- ---- a line is kept exactly where the bench answers `ok`
abbrev pub is_ok : List ℕ → Bool
is_ok t = same_text (take 2 t) (ascii "ok")

abbrev Agrees : List Rec → Reply Setup → Type 0
Agrees k x = length k ≡ pick (is_ok x.text) 1 0

either : (c : Bool) (j k : List Rec) (x y : Reply Setup) → Agrees j x → Agrees k y → Agrees (pick c j k) (pick c x y)
either true j k x y p q = p
either false j k x y p q = q

refused-agrees : (b : Setup) (n : ℕ) → Agrees [] (refused_reply b n)
unfolding refused_text
refused-agrees b n = refl

call-agrees : (b : Setup) (x : Parsed Call) → Agrees (call_kept b.link x) (play_reply ground_bench b x)
unfolding call_kept play_reply answer_reply answer_text brief_text refused_text
call-agrees b (makes c s) = go (eqb (answered b.link c s).said.refusal 0) _ _ _
  where
    go : (q : Bool) (r : Rec) (t : List ℕ) (n : ℕ) → length (pick q (r ∷ []) []) ≡ pick (is_ok (pick q (ascii "ok" ++ t) (refused_text n))) 1 0
    go true r t n = refl
    go false r t n = refl
call-agrees b unread = refl

set_agrees : (b : Setup) (tail : List ℕ) → Agrees (settings_kept (settings_in tail)) (settings_reply b tail)
unfolding settings_kept settings_reply listed_reply open_reply
set_agrees b tail = go (settings_in tail)
  where
    go : (x : Option (List ℕ)) → Agrees (settings_kept x) (listed_reply b x)
    go (Some s) = either (eqb (opened s).refusal 0) _ _ _ _ refl (refused-agrees b _)
    go None = refused-agrees b _

pub kept-ok : (b : Setup) (line : List ℕ) → length (line_kept b line) ≡ pick (is_ok (line_reply b line).text) 1 0
unfolding line_kept set_kept script.line_reply set_reply
kept-ok b line =
    either b.ready _ _ _ _ (call-agrees b (parsed_line line))
    (either (is_set line) _ _ _ _ (set_agrees b (drop (word_end line) line)) (refused-agrees b _))

-- ---- the calls of a script, once the box has its settings
pub calls-kept : (lines : List (List ℕ)) (l : Link) → script_kept (ready_setup l) lines ≡ records_from l (calls_in lines)
unfolding line_kept script.line_reply call_kept play_reply answer_reply
calls-kept [] l = refl
calls-kept (line ∷ lines) l = by (parsed_line line) (calls-kept lines)
  where
    by : (x : Parsed Call) → ((m : Link) → script_kept (ready_setup m) lines ≡ records_from m (calls_in lines))
        → noted_all (call_kept l x) ++ script_kept (play_reply ground_bench (ready_setup l) x).box lines ≡ records_from l (onto x (calls_in lines))
    by unread ih = ih l
    by (makes c s) ih = go (eqb (answered l c s).said.refusal 0) refl
      where
        m : Made
        m = record { call = c; octets = s }

        go : (q : Bool) → eqb (answered l c s).said.refusal 0 ≡ q
            → noted_all (pick q (record_of c s ∷ []) []) ++ script_kept (ready_setup (answered l c s).link) lines
            ≡ link.pick q (noted (record_of c s) ∷ records_from (answered l c s).link (calls_in lines)) (records_from l (calls_in lines))
        go true e = ap (λ (rs : List Rec). noted (record_of c s) ∷ rs) (ih (answered l c s).link)
        go false e =
            ap (λ (x : Answer). script_kept (ready_setup x.link) lines) (refused-still l m e) ∙ ih l

-- ---- and from its settings on
abbrev Ten : Option (List ℕ) → Type 0
Ten x = IfSome x (λ s. length s ≡ timers)

settings-long : (k i : ℕ) (list s : List ℕ) → length list ≡ timers → Ten (settings_from k i list s)
unfolding settings_from
settings-long zero i list s h = pick-case Ten (eqb (length s) 0) (λ e. h) (λ e. tt)
settings-long (suc k) i list s h = go (step_of s) (λ n. settings-long k (i + 1) (set list i n.value) (drop n.used s) (length-set list i n.value ∙ h))
  where
    go : (x : Option Stepped) → ((n : Stepped) → Ten (settings_from k (i + 1) (set list i n.value) (drop n.used s)))
        → Ten (with_step x None (λ n. settings_from k (i + 1) (set list i n.value) (drop n.used s)))
    go (Some n) f = f n
    go None f = tt

pub ten-settings : (s : List ℕ) → IfSome (settings_in s) (λ list. length list ≡ timers)
unfolding settings_in
ten-settings s = settings-long timers 0 _ s (length-replicate {A = ℕ} timers 0)

short-settings : (s : List ℕ) → length s ≡ timers → noted (settings_record s) ≡ settings_record s
unfolding settings_record
short-settings s h =
    let n : length (quads s) ≤ 129 = omega (arith, length-quads s, h) in
    ap (λ (x : List ℕ). record { kind = 0; seconds = 0; octets = x }) (take_all 129 (quads s) n)

-- "the settings are the first record": a line with good settings, and what follows it
module _ (b : Setup) (line : List ℕ) (lines : List (List ℕ)) (s : List ℕ) (is : settings_in (drop (word_end line) line) ≡ Some s) where
  pub script-kept : b.ready ≡ false → is_set line ≡ true → (opened s).refusal ≡ 0 → script_kept b (line ∷ lines) ≡ records_of s (calls_in lines)
  unfolding line_kept set_kept settings_kept script.line_reply set_reply settings_reply listed_reply open_reply
  script-kept new found opens =
      let ten : length s ≡ timers = subst (λ (x : Option (List ℕ)). IfSome x (λ list. length list ≡ timers)) is (ten-settings (drop (word_end line) line)) in
      ap (λ (rs : List Rec). noted_all rs ++ script_kept (line_reply b line).box lines) first
      ∙ ap (λ (x : Setup). noted (settings_record s) ∷ script_kept x lines) box
      ∙ ap (λ (r : Rec). r ∷ script_kept (ready_setup (fresh s)) lines) (short-settings s ten)
      ∙ ap (λ (rs : List Rec). settings_record s ∷ rs) (calls-kept lines (fresh s))
    where
      first : line_kept b line ≡ settings_record s ∷ []
      first = rw (new, found, is, eq-eqb _ 0 opens)

      box : (line_reply b line).box ≡ ready_setup (fresh s)
      box = rw (new, found, is, eq-eqb _ 0 opens) (ap ready_setup (opened-fresh s opens))
