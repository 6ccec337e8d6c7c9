use mathlib.Core.Path.{◌≡◌}
use lib.ListN.{length, drop}
use Rattle.text.specs.Page.{page, wrote}
use Rattle.text.specs.Words.{words_of}
use Rattle.script.specs.Entries.{names, entries_of}
use Rattle.script.proofs.answer.put_entries.Given as goal

abbrev pub invariant-loop-c : goal.invariant-loop-c
invariant-loop-c l = (length l.out ≡ length l.initial.out) × (wrote (page l.out l.a) (entries_of (names (words_of l.words l.begins) (words_of l.timers l.starts)) (drop l.c-index l.c-items) l.sent l.left l.fn.b.reason l.came) ≡ wrote (page l.initial.out l.at) (entries_of (names (words_of l.words l.begins) (words_of l.timers l.starts)) l.c-items l.sent l.initial.left l.fn.b.reason l.came))
