use borrow.Author.Tests.{eq-eqb, ne_eqb}
use mathlib.Core.Path.{◌≡◌}
use native.Mathlib.Nat.{le_trans}
use lib.Dec.{lit≤}
use mathlib.Core.List.{List}
use lib.ListN.{length, take}
use Rattle.text.proofs.Pages.{after}
use Rattle.script.specs.declared.answer.Brief.{Brief}
use Rattle.script.specs.Entries.{Names, names, entries_of, brief_text, short_words}
use mathlib.Core.Bool.{true}
use Prim.Native.Nat.{ℕ, ◌≤◌}
use Rattle.text.specs.Text.{both}
use Rattle.text.specs.Words.{words_of}
use Rattle.script.proofs.Short.{brief-length}
use Rattle.std.proofs.Common.{rules}
use Rattle.script.proofs.answer.put_brief.Goals as goal

short-text : (n : Names) (b : Brief) (sent came : List ℕ) → length b.acts.list ≡ 8 → both (short_words n.entries) (short_words n.timers) ≡ true → length sent ≤ 2048 → length came ≤ 2048
    → length (brief_text n b sent came) ≤ 33000
short-text n b sent came eight h p q = le_trans (brief-length 2048 (lit≤ tt) n b sent came eight h p q) (lit≤ tt)

pub returns-then-refusal-ne0 : goal.returns-then-refusal-ne0
unfolding brief_text
returns-then-refusal-ne0 c = record { text_is = rw (ne_eqb _ 0 c.if-refusal-ne0.true) c.put_refused.ensures; short = short-text _ _ _ _ (search rules) }

pub returns : goal.returns
unfolding brief_text
returns c = let ns = names (words_of c.args.words.now c.args.begins.now) (words_of c.args.timers.now c.args.starts.now) in
    record { text_is = rw (eq-eqb _ 0 c.if-refusal-ne0.false) (after {ys = entries_of ns (take c.args.b.acts.n c.args.b.acts.list) c.args.sent.now (length c.args.sent.now) c.args.b.reason c.args.came.now} c.put_text-a.ensures c.put_entries.ensures); short = short-text _ _ _ _ (search rules) }
