-- What holds of every call on every air link, and what EM3 may have left. Assumes nothing.
use mathlib.Core.Path.{◌≡◌, refl, sym, subst, ap, ◌∙◌}
use mathlib.Core.Bool.{true, false}
use mathlib.Core.List.{List, [], ◌∷◌}
use Prim.Native.Nat.{ℕ, zero, suc, ◌≤◌}
use lib.Dec.{T, eqb, leb, lit<}
use lib.ListN.{get_or}
use native.Mathlib.Omega.{arith}
use borrow.Author.Tests.{eqb-true, le-leb, lt-leb}
use Rattle.pdu_parts.specs.declared.lists.Listed.{Listed}
use Rattle.link.specs.Tests.{both}
use Rattle.link.specs.Names.{EM}
use Rattle.link.specs.Watch.{seconds_ok, runs}
use Rattle.link.specs.Step.{performed, begun, added, stopped}
use Rattle.link.proofs.Laws.{no_true, pushed_most, all_most, none-most}
use Rattle.sides.specs.Runs.{after}
use Rattle.air_tables.specs.Names.{CANCEL, EM3}
use Rattle.air_tables.specs.Moves.{halts}
use Rattle.air_tables.specs.Watch.{air_watch}
use Rattle.air_tables.specs.Tables.{air_tables}
use Rattle.air_answer.specs.Record.{loads, fresh, played}
use Rattle.air_answer.specs.Fresh.{opened}
use Rattle.air_answer.specs.declared.record.AirLink.{AirLink}
use Rattle.air_answer.specs.Answers.{refusal}
use Rattle.air_answer.specs.Aborts.{aborted, closed}
use Rattle.air_answer.specs.Clock.{waited}
use Rattle.air_answer.specs.declared.answer.Answer.{Answer}
use Rattle.air.specs.Arrivals.{end_parts, ended}
use Rattle.air.specs.Runs.{answered, Made, reply, air_side}
use Rattle.air.specs.declared.call.Call.{Call}
use Rattle.air.proofs.Every.{every}
use Rattle.air.proofs.Keeps.{em3-loads}
use Rattle.air.proofs.Demand3.{settings-kinds, opened-fresh, demand3-first}

-- "a refused call leaves the link .. as before it", and gives no action and no octets
pub refused-still : (l : AirLink) (c : Made) → eqb (reply l c).said.refusal 0 ≡ false → reply l c ≡ refusal l (reply l c).said.refusal
unfolding aborted closed ended waited
refused-still l c =
    every l (λ n a. eqb a.said.refusal 0 ≡ false → a ≡ refusal l a.said.refusal)
    (record {
      stays = λ n h e. refl;
      aborts = λ n s g e. absurd (no_true e);
      closes = λ entry reason g e. absurd (no_true e);
      goes = λ k x entry s g w f e. absurd (no_true e);
      ends = λ told s g h e. absurd (no_true e);
      waits = λ n g d e. absurd (no_true e);
    })
    c

-- "each public call has one possible result"
pub one_answer : (l : AirLink) (c : Call) (list : Listed) (s : List ℕ) {r q : Answer} → r ≡ answered l c list s → q ≡ answered l c list s → r ≡ q
one_answer l c list s p q = p ∙ sym q

-- "An action list has at most 8 entries." That none is cut to be so: `then-said`, `abort-said`, `played-said` (sides/proofs/Ways.antt)
pub at-most-8 : (l : AirLink) (c : Made) → (reply l c).said.acts.n ≤ 8
unfolding aborted closed ended end_parts halts waited played performed begun added stopped
at-most-8 l c =
    every l (λ n a. a.said.acts.n ≤ 8)
    (record {
      stays = λ n h. none-most;
      aborts = λ n s g. pushed_most _ 6 (pushed_most _ 4 (all_most _ _ none-most));
      closes = λ entry reason g. pushed_most _ entry (all_most _ _ none-most);
      goes = λ k e entry s g w f. all_most _ _ (all_most _ _ none-most);
      ends = λ told s g h. all_most _ _ (all_most _ _ (all_most _ _ (all_most _ _ (all_most _ _ (all_most _ _ none-most)))));
      waits = λ n g d. none-most;
    })
    c

-- no call changes the setting
pub settings-stay : (l : AirLink) (cs : List Made) → (after air_side l cs).setting ≡ l.setting
unfolding after
settings-stay l [] = refl
settings-stay l (c ∷ cs) = settings-stay (reply l c).link cs ∙ every l (λ n a. a.link.setting ≡ l.setting) (settings-kinds l) c

-- EM3 may have its setting left at the most
pub em3-most : (s : ℕ) → T (seconds_ok s) → (cs : List Made) → get_or (loads (after air_side (opened s).link cs)) EM3 0 ≡ s
unfolding fresh
em3-most s h cs = em3-loads (after air_side (opened s).link cs) ∙ settings-stay (opened s).link cs ∙ ap (λ (l : AirLink). l.setting) (opened-fresh s h)

-- EM3 runs in EM-CANCEL, and there alone
at-cancel : (n : ℕ) → eqb n CANCEL ≡ false → both (leb CANCEL n) (both (leb n CANCEL) (leb n CANCEL)) ≡ false
at-cancel zero e = refl
at-cancel (suc zero) e = refl
at-cancel (suc (suc zero)) e = refl
at-cancel (suc (suc (suc zero))) e = absurd (no_true e)
at-cancel (suc (suc (suc (suc n)))) e = rw (le-leb CANCEL (suc (suc (suc (suc n)))) (omega arith), lt-leb (suc (suc (suc (suc n)))) CANCEL (omega arith))

else-off : (at : List ℕ) → eqb (get_or at EM 0) CANCEL ≡ false → runs air_watch EM3 at ≡ false
unfolding runs air_watch
else-off at e = at-cancel (get_or at EM 0) e

cancel-runs : (at : List ℕ) → eqb (get_or at EM 0) CANCEL ≡ true → runs air_watch EM3 at ≡ true
unfolding runs air_watch
cancel-runs at e = rw (eqb-true (get_or at EM 0) CANCEL e)

-- in EM-CANCEL EM3 has 1 to its setting's seconds left, elsewhere none
pub cancel-watched : (s : ℕ) → T (seconds_ok s) → (cs : List Made) → eqb (get_or (after air_side (opened s).link cs).at EM 0) CANCEL ≡ true
    → (1 ≤ get_or (after air_side (opened s).link cs).left EM3 0) × (get_or (after air_side (opened s).link cs).left EM3 0 ≤ s)
unfolding air_tables
cancel-watched s h cs e =
    let r = (demand3-first s h cs EM3 (lit< tt)).runs_left (cancel-runs (after air_side (opened s).link cs).at e) in
    (r.0, subst (λ (n : ℕ). get_or (after air_side (opened s).link cs).left EM3 0 ≤ n) (em3-most s h cs) r.1)

pub else_none : (s : ℕ) → T (seconds_ok s) → (cs : List Made) → eqb (get_or (after air_side (opened s).link cs).at EM 0) CANCEL ≡ false
    → get_or (after air_side (opened s).link cs).left EM3 0 ≡ 0
unfolding air_tables
else_none s h cs e = (demand3-first s h cs EM3 (lit< tt)).else_none (else-off (after air_side (opened s).link cs).at e)
