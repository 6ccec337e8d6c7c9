-- What a line leaves, way by way, as laws on its definition. Assumes nothing.
use Prim.Native.Nat.{ℕ, ◌-◌, ◌≤◌, ◌<◌, min}
use mathlib.Core.Path.{◌≡◌, refl, sym, ap, subst, ◌∙◌}
use mathlib.Core.Bool.{Bool, true, false}
use mathlib.Core.List.{List, [], ◌∷◌}
use native.Mathlib.Omega.{arith}
use borrow.Author.Tests.{eq-eqb, ne_eqb, le-leb, lt-leb}
use lib.Dec.{eqb}
use lib.ListN.{length, take, drop}
use Rattle.std.specs.Prelude.{Some, None}
use Rattle.text.specs.Text.{pick, word_end}
use Rattle.text.proofs.Laws.{part-all, take_min}
use Rattle.link.specs.Tests.{below}
use Rattle.link.specs.Names.{timers}
use Rattle.link.specs.Watch.{setting_ok}
use Rattle.link.proofs.Laws.{pick-case}
use Rattle.pdu.specs.declared.uplink.Ground.{Ground}
use Rattle.pdu.specs.UplinkTable.{ground_c}
use Rattle.octets.specs.Octets.{quads}
use Rattle.ground_answer.specs.declared.record.Link.{Link}
use Rattle.ground_answer.specs.declared.answer.Answer.{Answer}
use Rattle.ground_answer.specs.declared.fresh.Opened.{Opened}
use Rattle.ground_answer.specs.Record.{fresh}
use Rattle.ground_answer.specs.Fresh.{opened}
use Rattle.ground.specs.declared.call.Call.{Call}
use Rattle.ground.specs.declared.call.Call.TheVariants.{Request}
use Rattle.ground.specs.Runs.{answered}
use Rattle.script.specs.Lines.{Parsed, unread, makes, is_set, SetFrom}
use Rattle.script.specs.Replies.{Reply, play_reply}
use Rattle.script.proofs.Heard.{with-room}
use Rattle.script.proofs.Ways.{line-play, line_set, line_other}
use Rattle.bench_line.specs.declared.line.LineCall.{LineCall}
use Rattle.bench_line.specs.declared.line.LineCall.TheVariants.{Unread, Makes}
use Rattle.bench_line.specs.Lines.{ground_script, parsed_in, parsed_line, parsed_into}
use Rattle.bench_line.specs.Settings.{settings_in}
use Rattle.bench.specs.declared.reply.Setup.{Setup}
use Rattle.bench.specs.Replies.{ground_bench, ready_setup, answer_reply, open_reply, listed_reply, settings_reply, line_reply}
use Rattle.log_blocks.specs.Record.{Rec, rec}
use Rattle.log_play.specs.Records.{record_of, settings_record}
use Rattle.log_play.proofs.Recorded.{may_write}
use Rattle.log_script.specs.declared.line.Entry.{Entry}
use Rattle.log_script.specs.Heard.{call_kept, settings_kept, set_kept, line_kept, Heard, heard, heard_line, heard_into, Hears}

pub hears-as : {h k : Heard} (e : Entry) (o : List ℕ) → h ≡ k → Hears k e o → Hears h e o
hears-as e o q x = subst (λ (y : Heard). Hears y e o) (sym q) x

abbrev pub kept : Setup → ℕ → ℕ → ℕ → Entry
kept b k s n = record { setup = b; kept = Some (record { kind = k; seconds = s; len = n }) }

-- ---- a line for a box that has its settings
abbrev pub call_heard : Setup → List ℕ → Heard
call_heard b line = heard (play_reply ground_bench b (parsed_line line)).box (call_kept b.link (parsed_line line))

module _ (b : Setup) (line o : List ℕ) (room : ℕ) (big : 2048 ≤ room) (r : LineCall) (is : parsed_in r o ≡ parsed_into room line) where
  by-line : (x : Parsed Call) → parsed_in r o ≡ x → parsed_line line ≡ x
  by-line x e = sym (is ∙ with-room ground_script room line big) ∙ e

  as-heard : (x : Parsed Call) → parsed_in r o ≡ x → call_heard b line ≡ heard (play_reply ground_bench b x).box (call_kept b.link x)
  as-heard x e = ap (λ (y : Parsed Call). heard (play_reply ground_bench b y).box (call_kept b.link y)) (by-line x e)

  pub unread-heard : r ≡ Unread → call_heard b line ≡ heard b []
  unfolding parsed_in play_reply call_kept
  unread-heard e = as-heard unread (ap (λ (x : LineCall). parsed_in x o) e)

  module _ (c : Call) (n m : ℕ) (made : r ≡ Makes c n) (l : m ≡ min n (length o)) (a : Answer) (said : a ≡ answered b.link c (take m o)) where
    call-heard : call_heard b line ≡ heard (ready_setup a.link) (pick (eqb a.said.refusal 0) (record_of c (take m o) ∷ []) [])
    unfolding parsed_in play_reply call_kept answer_reply
    call-heard =
        as-heard (makes c (take m o)) (ap (λ (x : LineCall). parsed_in x o) made ∙ ap (makes c) (sym (ap (λ (k : ℕ). take k o) l ∙ take_min n o)))
        ∙ ap (λ (x : Answer). heard (ready_setup x.link) (pick (eqb x.said.refusal 0) (record_of c (take m o) ∷ []) [])) (sym said)

    pub refused-heard : (a.said.refusal ≡ 0 → ⊥) → call_heard b line ≡ heard (ready_setup a.link) []
    refused-heard z =
        call-heard ∙ ap (λ (x : Bool). heard (ready_setup a.link) (pick x (record_of c (take m o) ∷ []) [])) (ne_eqb _ 0 z)

    module _ (z : a.said.refusal ≡ 0) where
      pub accepted-hears : (k s len : ℕ) (p : List ℕ) → k ≡ (record_of c (take m o)).kind → s ≡ (record_of c (take m o)).seconds → take len p ≡ (record_of c (take m o)).octets
          → Hears (call_heard b line) (kept (ready_setup a.link) k s len) p
      accepted-hears k s len p e f g =
          hears-as (kept (ready_setup a.link) k s len) p
          (call-heard ∙ ap (λ (x : Bool). heard (ready_setup a.link) (pick x (record_of c (take m o) ∷ []) [])) (eq-eqb _ 0 z))
          (record { box_is = refl; record_is = rw (e, f, g) })

      -- its data may be written
      pub request-good : (g : Ground) → c ≡ Request g → ground_c.chk g ≡ 0
      unfolding answered
      request-good g e =
          may_write b.link g (ap (λ (x : Call). (answered b.link x (take m o)).said.refusal) (sym e) ∙ ap (λ (x : Answer). x.said.refusal) (sym said) ∙ z)

-- ---- the settings, for a box that has none
pub opened-fresh : (s : List ℕ) → (opened s).refusal ≡ 0 → (opened s).link ≡ fresh s
unfolding opened
opened-fresh s =
    pick-case (λ (x : Opened). x.refusal ≡ 0 → x.link ≡ fresh s) (below timers (setting_ok s)) {x = record { refusal = 0; link = fresh s }} (λ e f. refl) (λ e f. absurd (omega (arith, f)))

abbrev pub set_heard : Setup → List ℕ → Heard
set_heard b tail = heard (settings_reply b tail).box (settings_kept (settings_in tail))

pub bad-heard : (b : Setup) (tail : List ℕ) → None ≡ settings_in tail → set_heard b tail ≡ heard b []
unfolding settings_reply listed_reply settings_kept
bad-heard b tail is = rw (← is)

module _ (b : Setup) (tail s : List ℕ) (is : Some s ≡ settings_in tail) (o : Opened) (opens : o ≡ opened s) where
  pub unopened-heard : (o.refusal ≡ 0 → ⊥) → set_heard b tail ≡ heard b []
  unfolding settings_reply listed_reply open_reply settings_kept
  unopened-heard z = rw (← is, ← opens, ne_eqb _ 0 z)

  module _ (z : o.refusal ≡ 0) where
    opened-heard : set_heard b tail ≡ heard (ready_setup o.link) (settings_record s ∷ [])
    unfolding settings_reply listed_reply open_reply settings_kept
    opened-heard = rw (← is, ← opens, eq-eqb _ 0 z)

    same-settings : o.link.setting ≡ s
    unfolding fresh
    same-settings =
        ap (λ (x : Opened). x.link.setting) opens
        ∙ ap (λ (x : Link). x.setting) (opened-fresh s (ap (λ (x : Opened). x.refusal) (sym opens) ∙ z))

    pub opened-hears : (len : ℕ) (p : List ℕ) → take len p ≡ quads o.link.setting → Hears (set_heard b tail) (kept (ready_setup o.link) 0 0 len) p
    unfolding settings_record
    opened-hears len p e =
        hears-as (kept (ready_setup o.link) 0 0 len) p opened-heard
        (record { box_is = refl; record_is = ap (λ (x : List ℕ). rec 0 0 x ∷ []) (e ∙ ap quads same-settings) })

-- ---- a whole line
pub line-short : (b : Setup) (line : List ℕ) (room : ℕ) → room < 2048 → heard_into room b line ≡ heard b []
unfolding heard_into
line-short b line room h = ap (λ (x : Bool). pick x (heard_line b line) (heard b [])) (lt-leb 2048 room h)

module _ (b : Setup) (line : List ℕ) (room : ℕ) (big : 2048 ≤ room) where
  line-long : heard_into room b line ≡ heard_line b line
  unfolding heard_into
  line-long = ap (λ (x : Bool). pick x (heard_line b line) (heard b [])) (le-leb 2048 room big)

  pub hears-whole : (e : Entry) (o : List ℕ) → Hears (heard_into room b line) e o → Hears (heard_line b line) e o
  hears-whole e o x = hears-as e o (sym line-long) x

  both-are : (r : Reply Setup) (k : List Rec) → line_reply b line ≡ r → line_kept b line ≡ k → heard_into room b line ≡ heard r.box k
  both-are r k e f = line-long ∙ ap (λ (x : Reply Setup). heard x.box (line_kept b line)) e ∙ ap (heard r.box) f

  pub ready-heard : b.ready ≡ true → heard_into room b line ≡ call_heard b line
  unfolding line_kept
  ready-heard e =
      both-are (play_reply ground_bench b (parsed_line line)) (call_kept b.link (parsed_line line)) (line-play ground_bench b line e)
      (ap (λ (x : Bool). pick x (call_kept b.link (parsed_line line)) (set_kept line)) e)

  module _ (new : b.ready ≡ false) where
    by-set : (f : Bool) → is_set line ≡ f → line_kept b line ≡ pick f (settings_kept (settings_in (drop (word_end line) line))) []
    unfolding line_kept set_kept
    by-set f e =
        ap (λ (x : Bool). pick x (call_kept b.link (parsed_line line)) (set_kept line)) new
        ∙ ap (λ (x : Bool). pick x (settings_kept (settings_in (drop (word_end line) line))) []) e

    pub set-heard : (from : ℕ) → SetFrom line from → heard_into room b line ≡ set_heard b (take (length line - from) (drop from line))
    set-heard from is =
        let part = ap (λ (k : ℕ). drop k line) (sym is.from_is) ∙ sym (part-all line from (length line) refl) in
        both-are _ _ (line_set ground_bench b line new from is) (by-set true is.found_is ∙ ap (λ (x : List ℕ). settings_kept (settings_in x)) part)

    pub other-heard : is_set line ≡ false → heard_into room b line ≡ heard b []
    other-heard f = both-are _ _ (line_other ground_bench b line new f) (by-set false f)
