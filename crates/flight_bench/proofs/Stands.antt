-- How long a line and the ending are, and that they stand whole on a page that has room. Assumes nothing.
use mathlib.Core.Bool.{false}
use mathlib.Core.List.{List, [], ◌∷◌, ◌++◌}
use Prim.Native.Nat.{ℕ, ◌+◌, ◌*◌, ◌≤◌}
use native.Mathlib.Omega.{arith}
use lib.Dec.{lit≤}
use lib.ListN.{length, get_or, length-append}
use Rattle.text.specs.Letters.{ascii}
use Rattle.text.specs.Text.{decimal}
use Rattle.text.specs.Page.{Page, page, Writes}
use Rattle.text.specs.Words.{word_at}
use Rattle.text.proofs.Laws.{decimal-length}
use Rattle.text.proofs.Lengths.{of_two}
use Rattle.text.proofs.Pages.{after, stands}
use Rattle.text_lines.specs.declared.input.Ended.{Ended}
use Rattle.script.specs.Replies.{Reply}
use Rattle.script.specs.Trace.{end_text, Stands, Closes}
use Rattle.script.proofs.Short.{octets_of_all, word-within}
use Rattle.bench.specs.declared.reply.Setup as ground
use Rattle.air_bench.specs.declared.reply.Setup as air
use Rattle.world.specs.World.{World}
use Rattle.flight_line.specs.Lines.{flight_line, LINE-MOST}
use Rattle.flight_bench.specs.Endings.{states_of, ground_names, air_names, ground_states, air_states, states_text}
use Rattle.flight_bench.specs.Trace.{numbered, ending_text, ADDED-MOST, ENDING-MOST, Adds, Ends}

pub numbered-short : (n : ℕ) (w : World) (line : List ℕ) → length (flight_line w n line).text ≤ LINE-MOST → length (numbered n w line).text ≤ ADDED-MOST
unfolding numbered
numbered-short n w line h = omega (arith, length-append (decimal n) ((32 ∷ []) ++ (flight_line w n line).text), decimal-length n)

pub added-stands : {p q : Page} {n number : ℕ} {x : Reply World} {w : World} → p.at + ADDED-MOST ≤ length p.octets → Adds p n x number w q → Stands p n x number w q
added-stands {p} {q} {n} {number} {x} h a =
    let s = a.short in
    record { number_is = a.number_is; box_is = a.world_is; text_is = stands p.octets q.octets p.at q.at x.text (omega arith) a.text_is }

-- five words, and the end of the line
states-length : (words : List (List ℕ)) (at : List ℕ) → length (states_of words at) ≤ 5 * octets_of_all words + 1
unfolding states_of
states-length words at =
    let li = word_at words (0 + get_or at 4 0) in
    let dc = word_at words (5 + get_or at 0 0) in
    let ec = word_at words (10 + get_or at 1 0) in
    let pc = word_at words (15 + get_or at 2 0) in
    let em = word_at words (20 + get_or at 3 0) in
    omega (arith, length-append li (dc ++ (ec ++ (pc ++ (em ++ (10 ∷ []))))), length-append dc (ec ++ (pc ++ (em ++ (10 ∷ [])))), length-append ec (pc ++ (em ++ (10 ∷ []))), length-append pc (em ++ (10 ∷ [])), length-append em (10 ∷ []), word-within words (0 + get_or at 4 0), word-within words (5 + get_or at 0 0), word-within words (10 + get_or at 1 0), word-within words (15 + get_or at 2 0), word-within words (20 + get_or at 3 0))

ground-length : (s : ground.Setup) → length (ground_states s) ≤ 1030
unfolding ground_states
ground-length s =
    of_two s.ready 1030 _ _ (omega (arith, length-append (ascii "ground") (states_of ground_names s.link.at), states-length ground_names s.link.at)) (lit≤ tt)

air-length : (s : air.Setup) → length (air_states s) ≤ 950
unfolding air_states
air-length s = of_two s.ready 950 _ _ (omega (arith, length-append (ascii "air") (states_of air_names s.link.at), states-length air_names s.link.at)) (lit≤ tt)

end-length : (n : ℕ) → length (end_text n) ≤ 25
unfolding end_text
end-length n = omega (arith, length-append (ascii "end ") (decimal n ++ (10 ∷ [])), length-append (decimal n) (10 ∷ []), decimal-length n)

states-text-length : (w : World) → length (states_text w) ≤ 2011
unfolding states_text
states-text-length w =
    let g = ground_states w.ground_end in
    let a = air_states w.air in
    let d = decimal (length w.under) in
    omega (arith, length-append g (a ++ (ascii "under way " ++ (d ++ (10 ∷ [])))), length-append a (ascii "under way " ++ (d ++ (10 ∷ []))), length-append (ascii "under way ") (d ++ (10 ∷ [])), length-append d (10 ∷ []), ground-length w.ground_end, air-length w.air, decimal-length (length w.under))

pub ending-stands : {w : World} {n : ℕ} {l m out : List ℕ} {at a : ℕ} {r : Ended} → at + ENDING-MOST ≤ length l → Writes (page l at) (states_text w) (page m a) → Closes n false (page m a) r out
    → Ends false w n (page l at) r out
unfolding ending_text
ending-stands {w} {n} {l} {m} {out} {at} {a} {r} h s c =
    let k : length (states_text w ++ end_text n) ≤ ENDING-MOST = omega (arith, length-append (states_text w) (end_text n), states-text-length w, end-length n) in
    record { failed_is = c.failed_is; text_is = stands l out at r.at (states_text w ++ end_text n) (omega arith) (after s c.text_is) }
