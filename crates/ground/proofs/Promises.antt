-- What holds of every call on every link, and what a timer may have left. Assumes nothing.
use mathlib.Core.Path.{◌≡◌, refl, sym, ap, ◌∙◌}
use mathlib.Core.Bool.{Bool, true, false}
use mathlib.Core.List.{List, [], ◌∷◌}
use Prim.Native.Nat.{ℕ, ◌+◌, ◌≤◌}
use native.Mathlib.Nat.{add-zero}
use borrow.Author.Tests.{eqb-true}
use lib.Dec.{T, eqb}
use lib.ListN.{length, get_or}
use Rattle.link.specs.Tests.{pick, below}
use Rattle.link.specs.Names.{timers, PC}
use Rattle.link.specs.Watch.{setting_ok}
use Rattle.link.specs.Step.{performed, begun, added, stopped}
use Rattle.link.proofs.Laws.{no_true, pushed_most, all_most, none-most}
use Rattle.sides.specs.Runs.{after}
use Rattle.ground_tables.specs.Names.{PC2}
use Rattle.ground_tables.specs.Intervals.{intervals_ok}
use Rattle.ground_tables.proofs.KeptIntervals.{force-most}
use Rattle.ground_answer.specs.Record.{loads, fresh, turned, went}
use Rattle.ground_answer.specs.declared.record.Link.{Link}
use Rattle.ground_answer.specs.Answers.{refusal}
use Rattle.ground_answer.specs.Aborts.{aborted, closed}
use Rattle.ground_answer.specs.Clock.{waited}
use Rattle.ground.specs.Requests.{cancelled}
use Rattle.ground.specs.Arrivals.{late_data}
use Rattle.ground.specs.Endings.{over}
use Rattle.ground.specs.Runs.{answered, Made, reply, ground}
use Rattle.ground_answer.specs.declared.answer.Answer.{Answer}
use Rattle.ground.specs.declared.call.Call.{Call}
use Rattle.ground.proofs.Every.{Kinds, every}
use Rattle.ground.proofs.Keeps.{Fine, good-settings, good-intervals, pc2-loads, other-loads, fresh-fine}
use Rattle.ground.proofs.Demand3.{settings-kinds, after-fine}

-- "a refused call leaves the link .. as before it", and gives no action and no octets
pub refused-still : (l : Link) (c : Made) → eqb (reply l c).said.refusal 0 ≡ false → reply l c ≡ refusal l (reply l c).said.refusal
unfolding aborted closed cancelled waited over late_data
refused-still l c = every l (λ n a. eqb a.said.refusal 0 ≡ false → a ≡ refusal l a.said.refusal) kinds c
  where
    kinds : Kinds l (λ n a. eqb a.said.refusal 0 ≡ false → a ≡ refusal l a.said.refusal)
    kinds =
        record {
          stays = λ n h e. refl;
          aborts = λ n s g e. absurd (no_true e);
          closes = λ entry reason g e. absurd (no_true e);
          cancels = λ g e. absurd (no_true e);
          goes = λ k x n entry s g w f a e. absurd (no_true e);
          ends = λ x s g b f a i e. absurd (no_true e);
          waits = λ n g d e. absurd (no_true e);
          turns = λ g i e. absurd (no_true e);
          late = λ g e. absurd (no_true e);
        }

-- "each public call has one possible result"
pub one_answer : (l : Link) (c : Call) (s : List ℕ) {r q : Answer} → r ≡ answered l c s → q ≡ answered l c s → r ≡ q
one_answer l c s p q = p ∙ sym q

-- "An action list has at most 8 entries." That none is cut to be so: `closed-list`, `abort-list`, `cancel-list` (Stops.antt), `short` (sides/proofs/Stops.antt)
pub at-most-8 : (l : Link) (c : Made) → (reply l c).said.acts.n ≤ 8
unfolding aborted closed cancelled waited over late_data went turned performed begun added stopped
at-most-8 l c =
    every l (λ n a. a.said.acts.n ≤ 8)
    (record {
      stays = λ n h. none-most;
      aborts = λ n s g. pushed_most _ 6 (pushed_most _ 4 (all_most _ _ none-most));
      closes = λ entry reason g. pushed_most _ entry (all_most _ _ none-most);
      cancels = λ g. all_most _ _ (all_most _ _ none-most);
      goes = λ k e n entry s g w f a. all_most _ _ (all_most _ _ none-most);
      ends = λ e s g b f a i. all_most _ _ (all_most _ _ (all_most _ _ none-most));
      waits = λ n g d. none-most;
      turns = λ g e. all_most _ _ none-most;
      late = λ g. pushed_most _ 8 none-most;
    })
    c

-- no call changes a setting
pub settings-stay : (l : Link) (cs : List Made) → (after ground l cs).setting ≡ l.setting
unfolding after
settings-stay l [] = refl
settings-stay l (c ∷ cs) = settings-stay (reply l c).link cs ∙ every l (λ n a. a.link.setting ≡ l.setting) (settings-kinds l) c

-- what a timer may have left at the most: its setting, and for PC2 the interval in force as well
pub loads-most : (s : List ℕ) → length s ≡ timers → T (below timers (setting_ok s)) → (cs : List Made) (t : ℕ)
    → get_or (loads (after ground (fresh s) cs)) t 0 ≡ get_or s t 0 + pick (eqb t PC2) (after ground (fresh s) cs).interval.force 0
unfolding fresh
loads-most s e h cs t = go (eqb t PC2) refl
  where
    l : Link
    l = after ground (fresh s) cs

    same : l.setting ≡ s
    same = settings-stay (fresh s) cs

    f : Fine l
    f = after-fine (fresh s) cs (fresh-fine s e h)

    go : (x : Bool) → eqb t PC2 ≡ x → get_or (loads l) t 0 ≡ get_or s t 0 + pick x l.interval.force 0
    go true q =
        rw (eqb-true t PC2 q) (pc2-loads l f.settings (good-settings l f) (force-most (get_or l.at PC 0) l.interval (good-intervals l f)) ∙ ap (λ (x : List ℕ). get_or x PC2 0 + l.interval.force) same)
    go false q = other-loads l t q ∙ ap (λ (x : List ℕ). get_or x t 0) same ∙ sym (add-zero _)

-- the intervals are those of the present state of PC
pub intervals-held : (s : List ℕ) → length s ≡ timers → T (below timers (setting_ok s)) → (cs : List Made)
    → T (intervals_ok (get_or (after ground (fresh s) cs).at PC 0) (after ground (fresh s) cs).interval)
intervals-held s e h cs = good-intervals (after ground (fresh s) cs) (after-fine (fresh s) cs (fresh-fine s e h))
