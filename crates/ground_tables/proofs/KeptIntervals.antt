-- A move that fits keeps the intervals at their states. Assumes nothing.
use mathlib.Core.Path.{◌≡◌, refl, sym, subst, ap, ◌∙◌}
use mathlib.Core.Bool.{Bool, true, false}
use mathlib.Core.List.{List}
use Prim.Native.Nat.{ℕ, ◌≤◌}
use native.Mathlib.Omega.{arith}
use lib.Dec.{T, eqb, leb, eqb→eq, leb→le}
use lib.ListN.{length, get_or, set}
use lib.Seq.{get_or-set_same, get_or-set_other}
use borrow.Author.Tests.{eqb-true, eqb-false}
use Rattle.link.specs.Tests.{both, pick}
use Rattle.link.specs.Names.{PC, IDLE, of}
use Rattle.link.specs.declared.moves.Move.{Move}
use Rattle.link.proofs.Laws.{both_left, both_right, both-T}
use Rattle.sides.specs.Tables.{same}
use Rattle.sides.proofs.Fits.{same-eq}
use Rattle.ground_tables.specs.Names.{request}
use Rattle.ground_tables.specs.Intervals.{INTERVAL-MOST, asked_at, force_at, holds, interval_ok, intervals_ok, agrees, answers, asked_after, force_after, agreed, interval_row}
use Rattle.ground_tables.specs.declared.intervals.Intervals.{Intervals}

-- a request asks for 1 to 7,200 seconds
abbrev pub asks_well : ℕ → ℕ → Bool
asks_well e n = pick (eqb e (of PC request)) (both (leb 1 n) (leb n INTERVAL-MOST)) true

-- an interval is good where the same tests say that it is there
asked-kept : (idle new gone held : Bool) (n x : ℕ) → T (interval_ok held x) → T (pick new (both (leb 1 n) (leb n INTERVAL-MOST)) true)
    → T (interval_ok (pick idle false (pick new true (pick gone false held))) (pick idle 0 (pick new n (pick gone 0 x))))
unfolding interval_ok
asked-kept true new gone held n x t u = tt
asked-kept false true gone held n x t u = u
asked-kept false false true held n x t u = tt
asked-kept false false false held n x t u = t

force-kept : (idle comes held was : Bool) (x y : ℕ) → T (interval_ok held x) → T (interval_ok was y)
    → T (interval_ok (pick idle false (pick comes held was)) (pick idle 0 (pick comes x y)))
unfolding interval_ok
force-kept true comes held was x y t u = tt
force-kept false true held was x y t u = t
force-kept false false held was x y t u = u

pub intervals-kept : (i : Intervals) (at : List ℕ) (e n : ℕ) (m : Move) → length at ≡ 5 → T (interval_row at e m) → T (asks_well e n)
    → T (intervals_ok (get_or at PC 0) i) → T (intervals_ok (get_or (set at m.who m.to) PC 0) (agreed i e n m))
unfolding interval_row intervals_ok agreed
intervals-kept i at e n m len row well old = go (eqb m.who PC) refl row
  where
    pc : ℕ
    pc = get_or at PC 0

    next : Intervals
    next = record { asked = asked_after e m.to 0 n i.asked; force = force_after e m.to 0 i.asked i.force }

    asks : Bool
    asks = same (holds asked_at m.to) (asked_after e m.to false true (holds asked_at pc))

    runs : Bool
    runs = same (holds force_at m.to) (force_after e m.to false (holds asked_at pc) (holds force_at pc))

    fits : T (both asks runs) → T (intervals_ok m.to next)
    fits r =
        let a = both_left (interval_ok (holds asked_at pc) i.asked) (interval_ok (holds force_at pc) i.force) old in
        let f = both_right (interval_ok (holds asked_at pc) i.asked) (interval_ok (holds force_at pc) i.force) old in
        both-T (interval_ok (holds asked_at m.to) next.asked) _
        (subst (λ (h : Bool). T (interval_ok h next.asked)) (sym (same-eq _ _ (both_left asks runs r))) (asked-kept (eqb m.to IDLE) (eqb e (of PC request)) (answers e) (holds asked_at pc) n i.asked a well))
        (subst (λ (h : Bool). T (interval_ok h next.force)) (sym (same-eq _ _ (both_right asks runs r))) (force-kept (eqb m.to IDLE) (agrees e) (holds asked_at pc) (holds force_at pc) i.asked i.force a f))

    go : (x : Bool) → eqb m.who PC ≡ x → T (pick x (both asks runs) true) → T (intervals_ok (get_or (set at m.who m.to) PC 0) (pick x next i))
    go true q r =
        subst (λ (k : ℕ). T (intervals_ok k next))
        (sym (ap (λ (k : ℕ). get_or (set at k m.to) PC 0) (eqb-true m.who PC q) ∙ get_or-set_same at PC m.to 0 (omega arith))) (fits r)
    go false q r =
        let other = eqb-false m.who PC q in
        subst (λ (k : ℕ). T (intervals_ok k i)) (sym (get_or-set_other at m.who PC m.to 0 (λ z. other (sym z)))) old

-- moves of other modules leave the intervals
pub agreed-other : (i : Intervals) (e n : ℕ) (m : Move) → eqb m.who PC ≡ false → agreed i e n m ≡ i
unfolding agreed
agreed-other i e n m h = rw h

-- no interval is over 7,200
interval-most : (held : Bool) (x : ℕ) → T (interval_ok held x) → x ≤ INTERVAL-MOST
unfolding interval_ok
interval-most true x t = leb→le x INTERVAL-MOST (both_right (leb 1 x) (leb x INTERVAL-MOST) t)
interval-most false x t = let e = eqb→eq x 0 t in omega arith

pub force-most : (pc : ℕ) (i : Intervals) → T (intervals_ok pc i) → i.force ≤ INTERVAL-MOST
unfolding intervals_ok
force-most pc i t = interval-most (holds force_at pc) i.force (both_right (interval_ok (holds asked_at pc) i.asked) (interval_ok (holds force_at pc) i.force) t)
