-- A record by its place in a lent block, and that place as a part of the payload.
use Rattle.std.specs.Prelude.{List, ℕ, Option, Some, None, Result, Ok, Err, ◌+◌, ◌-◌, eqb, leb, length, get_or, take, drop}
use Rattle.link.specs.Tests.{pick}
use Rattle.octets.specs.Octets.{word_at, pair_at}
use Rattle.log_blocks.specs.Block.{BLOCK}
use Rattle.log_blocks.specs.Log.{One, one, none, cut}
use Rattle.log_blocks.specs.Record.{Rec, rec, KEPT}
use Rattle.log_blocks.specs.declared.Found.{Found}
use Rattle.log_blocks.specs.declared.Unreadable.{Unreadable}

-- what a look at a place of a block gives: a record that was found there, the payload's end, or neither
abbrev pub Look : Type 0
Look = Result (Option Found) Unreadable

abbrev pub at_record : ℕ → ℕ → ℕ → ℕ → ℕ → Look
at_record k s a n x = Ok (Some (record { kind = k; seconds = s; start = a; len = n; next = x }))

abbrev pub at_end : Look
at_end = Ok None

abbrev pub unreadable : Look
unreadable = Err (record {})

-- where the payload ends
unfoldable pub end_of : List ℕ → ℕ
end_of b = 6 + pair_at b 4

-- what stands at a place, 6 being the first; nothing is readable in what is no block, or where the payload's length is wrong
unfoldable pub found_at : List ℕ → ℕ → Look
found_at b at =
    let e = end_of b in
    let n = get_or b (at + 5) 0 in
    pick (eqb (length b) BLOCK)
    (pick (leb e 510)
    (pick (leb e at) at_end
    (pick (leb (at + 6) e)
    (pick (leb n KEPT)
    (pick (leb (at + 6 + n) e) (at_record (get_or b at 0) (word_at b (at + 1)) (at + 6) n (at + 6 + n)) unreadable)
    unreadable)
    unreadable))
    unreadable)
    unreadable

-- the payload from a place on
abbrev pub from : List ℕ → ℕ → List ℕ
from b at = take (end_of b - at) (drop at b)

-- what was found, as the front of the payload from there on
abbrev pub seen : List ℕ → Look → One Rec
seen b (Ok (Some f)) = one (rec f.kind f.seconds (take f.len (drop f.start b))) (from b f.next)
seen b (Ok None) = none
seen b (Err e) = cut
