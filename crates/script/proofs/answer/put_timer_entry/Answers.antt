use borrow.Author.Tests.{lt-ltb, le-ltb}
use Rattle.text.proofs.Pages.{after}
use Rattle.script.specs.Entries.{timer_entry}
use Rattle.script.proofs.answer.put_timer_entry.Goals as goal

pub returns-then-c-lt-START : goal.returns-then-c-lt-START
unfolding timer_entry
returns-then-c-lt-START c = rw (lt-ltb _ 32 c.if-c-lt-START.true) (after c.put_text-a.ensures c.put_word.ensures)

pub returns : goal.returns
unfolding timer_entry
returns c = rw (le-ltb _ 32 c.if-c-lt-START.false) (after c.put_text-a-2.ensures c.put_word-2.ensures)
