-- "Reading a log and playing it gives the same state and the same actions as the calls did" (L6), with any step function: from a state and a record to the next state
-- and an answer, or to a refusal.
use Rattle.std.specs.Prelude.{List, [], ◌∷◌, ◌++◌, ℕ, ◌+◌}
use Rattle.refusals.specs.Refusals.{NOT-READABLE}
use Rattle.log_blocks.specs.Log.{Form, Read, got, bad, read_block}

pub data Step (S A : Type 0) : Type 0 where
  went : S → A → Step S A
  refused : Step S A

-- the state at the end, and the answers in order
pub record Trace (S A : Type 0) : Type 0 where
  pub state : S
  pub answers : List A

abbrev pub trace : {S A : Type 0} → S → List A → Trace S A
trace s l = record { state = s; answers = l }

-- answers that were given before
abbrev pub behind : {S A : Type 0} → List A → Read (Trace S A) → Read (Trace S A)
behind l (got t) = got (trace t.state (l ++ t.answers))
behind l (bad e) = bad e

abbrev pub stepped : {S A : Type 0} → Step S A → (S → Read (Trace S A)) → Read (Trace S A)
stepped (went s a) f = behind (a ∷ []) (f s)
stepped refused f = bad NOT-READABLE

abbrev pub onward : {S A : Type 0} → Read (Trace S A) → (S → Read (Trace S A)) → Read (Trace S A)
onward (got t) f = behind t.answers (f t.state)
onward (bad e) f = bad e

abbrev pub with_records : {R S A : Type 0} → Read (List R) → (List R → Read (Trace S A)) → Read (Trace S A)
with_records (got rs) f = f rs
with_records (bad e) f = bad e

module _ {R S A : Type 0} (step : S → R → Step S A) where
  -- each record in turn; 20, refused in play
  abbrev pub play : S → List R → Read (Trace S A)
  play s [] = got (trace s [])
  play s (r ∷ rs) = stepped (step s r) (λ (t : S). play t rs)

  -- a log, a block wholly before the next one is looked at
  abbrev pub play_from : Form R → S → ℕ → List (List ℕ) → Read (Trace S A)
  play_from F s n [] = got (trace s [])
  play_from F s n (b ∷ bs) = onward (with_records (read_block F n b) (play s)) (λ (t : S). play_from F t (n + 1) bs)

  abbrev pub play_log : Form R → S → List (List ℕ) → Read (Trace S A)
  play_log F s bs = play_from F s 0 bs

  -- ---- the calls themselves: a refused call changes nothing and is not recorded
  abbrev pub called : Step S A → S → (S → Trace S A) → Trace S A
  called (went t a) s f = trace (f t).state (a ∷ (f t).answers)
  called refused s f = f s

  abbrev pub calls : S → List R → Trace S A
  calls s [] = trace s []
  calls s (r ∷ rs) = called (step s r) s (λ (t : S). calls t rs)

  abbrev pub kept : Step S A → R → S → (S → List R) → List R
  kept (went t a) r s f = r ∷ f t
  kept refused r s f = f s

  -- the records of the calls, each cut to what is kept of it
  abbrev pub recorded : (R → R) → S → List R → List R
  recorded noted s [] = []
  recorded noted s (r ∷ rs) = kept (step s r) (noted r) s (λ (t : S). recorded noted t rs)
