-- The blocks of a log in turn, as laws. Assumes nothing.
use Prim.Native.Nat.{ℕ, zero, suc, ◌+◌}
use mathlib.Core.Path.{◌≡◌, refl, sym, ap, ◌∙◌}
use mathlib.Core.Bool.{Bool, false}
use mathlib.Core.List.{List, [], ◌∷◌}
use Rattle.ground_answer.specs.declared.answer.Answer.{Answer}
use Rattle.bench.specs.declared.reply.Setup.{Setup}
use Rattle.log_blocks.specs.Block.{judged, payload}
use Rattle.log_blocks.specs.Log.{Read, got, bad, unless, records_of, read_block}
use Rattle.log_blocks.specs.Places.{from}
use Rattle.log_blocks.specs.Play.{Trace, with_records, play}
use Rattle.log_blocks.specs.Record.{Rec, form_one}
use Rattle.log_blocks.proofs.Walks.{all_read}
use Rattle.log_play.specs.Steps.{step_of}
use Rattle.log_play.specs.Plays.{play_block, played_in}
use Rattle.log_play.specs.declared.block.Played.{Played}
use Rattle.log_play.proofs.Walks.{refused-number}
use Rattle.log_bench.specs.Shown.{count_on, Shows}
use Rattle.log_bench.specs.Logs.{Outcome, outcome, ended, of_play, of_block, outcome_of, Ends}

module _ (k n : ℕ) (b : Setup) (x : List ℕ) (p : Played) (is : p ≡ played_in b (play_block b k x)) where
  -- a block that is refused ends the log, and leaves what was there
  pub ends-refused : (p.refusal ≡ 0 → ⊥) → Ends k n b (outcome n b p.refusal k) false
  unfolding play_block played_in
  ends-refused h = record { blocks = x ∷ []; is = λ well. go (read_block form_one k x) is }
    where
      played : (rs : List Rec) (w : Read (Trace Setup Answer)) → p ≡ played_in b w → outcome n b p.refusal k ≡ of_play k n b rs w (λ (m : ℕ) (s : Setup). ended (k + 1) m s)
      played rs (got t) e = absurd (h (ap (λ (y : Played). y.refusal) e))
      played rs (bad i) e = ap (λ (y : Played). outcome n b y.refusal k) e

      go : (y : Read (List Rec)) → p ≡ played_in b (with_records y (play step_of b)) → outcome n b p.refusal k ≡ of_block k n b y (λ (m : ℕ) (s : Setup). ended (k + 1) m s)
      go (got rs) e = played rs (play step_of b rs) e
      go (bad i) e = ap (λ (y : Played). outcome n b y.refusal k) e

  module _ (good : p.refusal ≡ 0) where
    -- a block that is played has its check, its number and its length
    pub block-judged : judged 0 k x ≡ 0
    unfolding play_block read_block played_in
    block-judged = go (judged 0 k x) is
      where
        go : (j : ℕ) → p ≡ played_in b (with_records (unless j (records_of form_one (payload x))) (play step_of b)) → j ≡ 0
        go zero e = refl
        go (suc j) e = sym (ap (λ (y : Played). y.refusal) e) ∙ good

    pub ends-block : (number : ℕ) (box : Setup) (o : Outcome) (failed : Bool) → Shows (from x 6) n b number box → Ends (k + 1) number p.setup o failed
        → Ends k n b o failed
    unfolding play_block played_in
    ends-block number box o failed d q =
        record { blocks = x ∷ q.blocks; is = λ well. q.is well ∙ go (read_block form_one k x) refl }
      where
        rest : ℕ → Setup → Outcome
        rest m s = outcome_of (k + 1) m s q.blocks

        played : (rs : List Rec) → read_block form_one k x ≡ got rs → (w : Read (Trace Setup Answer)) → play step_of b rs ≡ w
            → p ≡ played_in b w → play_block b k x ≡ w → rest number p.setup ≡ of_play k n b rs w rest
        played rs f (got t) g e i =
            let c = (d.is rs (all_read k x block-judged ∙ f)).0 in
            ap (λ (m : ℕ). rest m p.setup) c ∙ ap (λ (y : Played). rest (count_on n rs) y.setup) e
        played rs f (bad j) g e i = absurd (refused-number b k x j i (sym (ap (λ (y : Played). y.refusal) e) ∙ good))

        go : (y : Read (List Rec)) → read_block form_one k x ≡ y → rest number p.setup ≡ of_block k n b y rest
        go (got rs) f =
            let v : play_block b k x ≡ play step_of b rs = ap (λ (y : Read (List Rec)). with_records y (play step_of b)) f in
            played rs f (play step_of b rs) refl (is ∙ ap (played_in b) v) v
        go (bad j) f =
            let v : play_block b k x ≡ bad j = ap (λ (y : Read (List Rec)). with_records y (play step_of b)) f in
            absurd (refused-number b k x j v (sym (ap (λ (y : Played). y.refusal) (is ∙ ap (played_in b) v)) ∙ good))
