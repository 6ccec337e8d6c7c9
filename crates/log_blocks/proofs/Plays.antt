-- Playing a log gives what the calls gave, for any step function. Assumes nothing.
use Prim.Native.Nat.{ℕ, suc, ◌+◌, ◌≤◌}
use mathlib.Core.Path.{◌≡◌, refl, sym, ap, ◌∙◌}
use mathlib.Core.List.{List, [], ◌∷◌, ◌++◌}
use native.Mathlib.Omega.{arith}
use lib.ListN.{length, take}
use Rattle.log_blocks.specs.Block.{BLOCKS}
use Rattle.log_blocks.specs.Log.{Form, Lawful, All, Read, got, bad, read_block, read_from, pack}
use Rattle.log_blocks.specs.Play.{Step, went, refused, Trace, behind, stepped, onward, with_records, play, play_from, play_log, called, calls, kept, recorded}
use Rattle.log_blocks.proofs.Packs.{beside-got, unpack-pack}

module _ {S A : Type 0} where
  behind-none : (x : Read (Trace S A)) → behind [] x ≡ x
  behind-none (got t) = refl
  behind-none (bad e) = refl

  behind-two : (a : A) (l : List A) (x : Read (Trace S A)) → behind (a ∷ []) (behind l x) ≡ behind (a ∷ l) x
  behind-two a l (got t) = refl
  behind-two a l (bad e) = refl

  onward-behind : (a : A) (x : Read (Trace S A)) (f : S → Read (Trace S A)) → behind (a ∷ []) (onward x f) ≡ onward (behind (a ∷ []) x) f
  onward-behind a (got t) f = behind-two a t.answers (f t.state)
  onward-behind a (bad e) f = refl

  onward-same : (x : Read (Trace S A)) (f g : S → Read (Trace S A)) → ((s : S) → f s ≡ g s) → onward x f ≡ onward x g
  onward-same (got t) f g h = ap (behind t.answers) (h t.state)
  onward-same (bad e) f g h = refl

module _ {R S A : Type 0} (step : S → R → Step S A) where
  pub play-append : (xs ys : List R) (s : S) → play step s (xs ++ ys) ≡ onward (play step s xs) (λ (t : S). play step t ys)
  play-append [] ys s = sym (behind-none (play step s ys))
  play-append (r ∷ xs) ys s = go (step s r) (λ t. play-append xs ys t)
    where
      go : (x : Step S A) → ((t : S) → play step t (xs ++ ys) ≡ onward (play step t xs) (λ (u : S). play step u ys))
          → stepped x (λ (t : S). play step t (xs ++ ys)) ≡ onward (stepped x (λ (t : S). play step t xs)) (λ (t : S). play step t ys)
      go (went t a) h = ap (behind (a ∷ [])) (h t) ∙ onward-behind a (play step t xs) (λ (u : S). play step u ys)
      go refused h = refl

  -- a log that reads well plays as its records do
  pub play-read : (F : Form R) (bs : List (List ℕ)) (n : ℕ) (rs : List R) (s : S) → read_from F n bs ≡ got rs → play_from step F s n bs ≡ play step s rs
  play-read F [] n rs s e = let f : rs ≡ [] = cc in rw f
  play-read F (b ∷ bs) n rs s e =
      let x = beside-got (read_block F n b) (read_from F (n + 1) bs) rs e in
      let xs = x.0 in
      let ys = x.1.0 in
      ap (λ (y : Read (List R)). onward (with_records y (play step s)) (λ (t : S). play_from step F t (n + 1) bs)) x.1.1.0
      ∙ onward-same (play step s xs) _ _ (λ t. play-read F bs (n + 1) ys t x.1.1.1.0)
      ∙ sym (play-append xs ys s)
      ∙ ap (play step s) (sym x.1.1.1.1)

  -- what the calls left on record plays as they went
  pub play-recorded : (noted : R → R) → ((s : S) (r : R) → step s (noted r) ≡ step s r)
      → (rs : List R) (s : S) → play step s (recorded step noted s rs) ≡ got (calls step s rs)
  play-recorded noted same [] s = refl
  play-recorded noted same (r ∷ rs) s = go (step s r) refl (λ t. play-recorded noted same rs t)
    where
      go : (x : Step S A) → step s r ≡ x → ((t : S) → play step t (recorded step noted t rs) ≡ got (calls step t rs))
          → play step s (kept step x (noted r) s (λ (t : S). recorded step noted t rs)) ≡ got (called step x s (λ (t : S). calls step t rs))
      go (went t a) e h = rw (same s r, e, h t)
      go refused e h = h s

  -- the first records are those of the first calls
  pub recorded-first : (noted : R → R) (rs xs ys : List R) (s : S) → recorded step noted s rs ≡ xs ++ ys → (k : ℕ) × (recorded step noted s (take k rs) ≡ xs)
  recorded-first noted [] xs ys s e = none_left xs e
    where
      none_left : (l : List R) → [] ≡ l ++ ys → (k : ℕ) × (recorded step noted s (take k []) ≡ l)
      none_left [] f = (0, refl)
      none_left (x ∷ l) f = let z : ◌≡◌ {A = ℕ} 0 1 = cc in absurd (omega arith)
  recorded-first noted (r ∷ rs) xs ys s e = go (step s r) refl xs e (λ l t. recorded-first noted rs l ys t)
    where
      go : (c : Step S A) → step s r ≡ c → (l : List R) → kept step c (noted r) s (λ (t : S). recorded step noted t rs) ≡ l ++ ys
          → ((m : List R) (t : S) → recorded step noted t rs ≡ m ++ ys → (k : ℕ) × (recorded step noted t (take k rs) ≡ m))
          → (k : ℕ) × (recorded step noted s (take k (r ∷ rs)) ≡ l)
      go (went t a) f [] g h = (0, refl)
      go (went t a) f (x ∷ l) g h =
          let u : noted r ≡ x = cc in
          let v : recorded step noted t rs ≡ l ++ ys = cc in
          let i = h l t v in
          (suc i.0, rw f (ap (λ (y : R). y ∷ recorded step noted t (take i.0 rs)) u ∙ ap (λ (m : List R). x ∷ m) i.1))
      go refused f l g h =
          let i = h l s g in
          (suc i.0, rw f i.1)

  -- (a) for play
  pub log-plays : (F : Form R) (good : R → Type 0) (L : Lawful F good) (noted : R → R) → ((s : S) (r : R) → step s (noted r) ≡ step s r)
      → (rs : List R) (s : S) → All good (recorded step noted s rs) → length (pack F (recorded step noted s rs)) ≤ BLOCKS
      → play_log step F s (pack F (recorded step noted s rs)) ≡ got (calls step s rs)
  log-plays F good L noted same rs s g h =
      let l = recorded step noted s rs in
      play-read F (pack F l) 0 l s (unpack-pack F good L l g h) ∙ play-recorded noted same rs s
